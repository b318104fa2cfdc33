use Rattle.boore_atkinson_theory.specs.Evaluation.{nonlinear_by}
use Rattle.boore_atkinson_theory.proofs.SiteSizes.{nonlinear_by_sized}
use Rattle.boore_atkinson_theory.proofs.Sums.{as_signed, flat}
use Rattle.boore_atkinson_site.proofs.nonlinear_part.Goals as goal

pub returns-then-v-ge7600 : goal.returns-then-v-ge7600
returns-then-v-ge7600 c =
    let p = c.requires in
    as_signed (flat c.args.s c.args.v c.args.q c.if-v-ge7600.true) (nonlinear_by_sized p.0 p.1 p.3)

pub returns : goal.returns
unfolding nonlinear_by
returns c =
    let p = c.requires in
    as_signed (rw (c.product.ensures, c.product-2.ensures, c.slope-n.ensures.0)) (nonlinear_by_sized p.0 p.1 p.3)
