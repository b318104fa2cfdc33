use Rattle.std.proofs.Common.{refl}
use Rattle.logarithm_theory.proofs.Bounds.{ln_sized}
use Rattle.idriss_theory.proofs.Bounds.{site_domain}
use Rattle.idriss.proofs.vs30_ln.Goals as goal

pub returns : goal.returns
returns c = rw (c.ln.ensures.value, c.min.ensures) (refl, ln_sized (site_domain c.requires))
