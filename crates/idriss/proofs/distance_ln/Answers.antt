use Rattle.std.proofs.Common.{refl}
use Rattle.logarithm_theory.proofs.Bounds.{ln_sized}
use Rattle.idriss_theory.proofs.Bounds.{far_domain}
use Rattle.idriss.proofs.distance_ln.Goals as goal

pub returns : goal.returns
returns c = rw c.ln_hundredths.ensures.value (refl, ln_sized (far_domain c.requires))
