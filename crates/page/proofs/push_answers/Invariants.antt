-- After each record that is read, its line is put, and fewer bytes are left.
use Rattle.std.proofs.Common.{length}
use Rattle.enclosures_theory.specs.Steps.{Going}
use Rattle.page.proofs.push_answers.Given as goal

abbrev pub invariant-loop-rest : goal.invariant-loop-rest
invariant-loop-rest l = Going l.fn.page.items l.s l.page.items l.rest l.count

abbrev pub decreases-loop-rest : goal.decreases-loop-rest
decreases-loop-rest l = length l.rest
