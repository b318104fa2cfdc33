-- the first from k on is what is sought, and low is the low end of k
use Rattle.std.proofs.Common.{◌≡◌, ◌-◌}
use Prim.Native.Nat.{suc}
use Rattle.millionths_theory.specs.Evaluation.{ln_millionths, most, first_passing, at_least, ceiling_after}
use Rattle.antilogarithm.proofs.ceiling_after.Given as goal

abbrev pub invariant-loop-k : goal.invariant-loop-k
invariant-loop-k l = record {
  low_end : l.low ≡ (ln_millionths l.k).low;
  first : first_passing (at_least l.z) (suc most - l.k) l.k ≡ ceiling_after l.a l.z;
}
