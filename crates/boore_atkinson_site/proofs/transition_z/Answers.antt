use Rattle.std.proofs.Common.{arith, ◌≡◌, ◌-◌, min}
use Rattle.boore_atkinson_theory.specs.Constants.{minus_ln_a1}
use Rattle.boore_atkinson_theory.specs.Evaluation.{z_of}
use Rattle.boore_atkinson_theory.proofs.SiteSizes.{z_sized}
use Rattle.boore_atkinson_theory.proofs.Sums.{as_sized}
use Rattle.boore_atkinson_site.proofs.transition_z.Goals as goal

pub returns : goal.returns
unfolding z_of
returns c =
    let p = c.requires in
    let b = c.args.b in
    let same : minus_ln_a1.low - min b.high minus_ln_a1.low ≡ minus_ln_a1.low - b.high = omega arith in
    as_sized (rw (c.min.ensures, c.max.ensures, same)) (z_sized p.0 p.1 p.2)
