use Rattle.std.proofs.Common.{refl}
use Rattle.idriss_theory.specs.Evaluation.{site_term_of}
use Rattle.idriss_theory.proofs.Bounds.{site_sized}
use Rattle.idriss.proofs.site_term.Goals as goal

pub returns : goal.returns
unfolding site_term_of
returns c = let p = c.requires in rw c.multiple.ensures (refl, site_sized p.0 p.1)
