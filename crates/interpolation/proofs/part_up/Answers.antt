use Rattle.std.proofs.Common.{rules, refl}
use borrow.Author.Tests.{le-leb, lt-leb}
use Rattle.interpolation_theory.specs.Evaluation.{part_down, part_up}
use Rattle.interpolation.proofs.part_up.Goals as goal

pub returns-then-above-below : goal.returns-then-above-below
unfolding part_up part_down
returns-then-above-below c = (rw (le-leb _ _ c.if-above-below.true) refl, search rules)

pub returns : goal.returns
unfolding part_up part_down
returns c = (rw (lt-leb _ _ c.if-above-below.false, c.part_down.ensures.0) refl, search rules)
