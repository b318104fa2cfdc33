use Rattle.std.proofs.Common.{refl}
use Rattle.boore_atkinson_theory.specs.Evaluation.{straight_of}
use Rattle.boore_atkinson_theory.proofs.SiteSizes.{straight_sized}
use Rattle.boore_atkinson_site.proofs.straight.Goals as goal

pub returns : goal.returns
unfolding straight_of
returns c = let p = c.requires in rw c.min.ensures (refl, straight_sized p.0 p.1)
