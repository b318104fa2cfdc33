use Rattle.std.proofs.Common.{refl}
use Rattle.idriss_theory.specs.Evaluation.{beta_of, distance_term_of}
use Rattle.idriss_theory.proofs.Bounds.{distance_sized}
use Rattle.idriss.proofs.distance_term.Goals as goal

pub returns : goal.returns
unfolding distance_term_of beta_of
returns c = let p = c.requires in rw c.multiple.ensures (refl, distance_sized p.0 p.1 p.2 p.3)
