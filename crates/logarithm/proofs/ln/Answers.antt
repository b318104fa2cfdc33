use borrow.Author.Tests.{eq-eqb}
use Rattle.logarithm_theory.specs.Evaluation.{ln_of}
use Rattle.logarithm_theory.proofs.Octave.{scales, unequal}
use Rattle.logarithm_theory.proofs.Laws.{ln_ends_lem}
use Rattle.logarithm.proofs.ln.Goals as goal

pub returns-then-a-b-clause-ln_ends : goal.returns-then-a-b-clause-ln_ends
unfolding ln_of
returns-then-a-b-clause-ln_ends c = (ln_ends_lem c.requires (simp (eq-eqb _ _ c.if-a-b.true))).1

pub scaled_ln-requires : goal.scaled_ln-requires
scaled_ln-requires c = rw c.scale-s.ensures (scales c.requires).normal

pub returns-clause-ln_ends : goal.returns-clause-ln_ends
returns-clause-ln_ends c = (ln_ends_lem c.requires (unequal _ _ c.if-a-b.false cc)).1
