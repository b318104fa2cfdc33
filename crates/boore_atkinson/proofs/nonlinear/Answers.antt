use Rattle.std.proofs.Common.{refl}
use Rattle.boore_atkinson_theory.specs.Evaluation.{nonlinear_ends_of}
use Rattle.boore_atkinson_theory.proofs.Laws.{nonlinear_promise}
use Rattle.boore_atkinson.proofs.nonlinear.Goals as goal

pub returns : goal.returns
unfolding nonlinear_ends_of
returns c =
    rw (c.ends.ensures, c.nonlinear_part.ensures.0, c.curve.ensures.0, c.site_at.ensures.0)
    record { value = refl; nonlinear_ends = nonlinear_promise c.requires }
