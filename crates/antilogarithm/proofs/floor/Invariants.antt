-- what is sought is from low on and before high, and next is the low end at high
use Rattle.std.proofs.Common.{◌≡◌, ◌-◌}
use Rattle.millionths_theory.specs.Evaluation.{ln_millionths, most, up_to}
use Rattle.millionths_theory.proofs.Search.{Sought}
use Rattle.antilogarithm.proofs.floor.Given as goal

abbrev pub invariant-loop-high : goal.invariant-loop-high
invariant-loop-high l = record {
  sought : Sought (up_to l.z) most l.low l.high;
  low_end : l.next ≡ (ln_millionths l.high).low;
}

abbrev pub decreases-loop-high : goal.decreases-loop-high
decreases-loop-high l = l.high - l.low
