use Rattle.interval_theory.proofs.Bounded.{pair, multiple_fits, product_fits, sum_fits}
use Rattle.std.proofs.Common.{arith}
use Rattle.boore_atkinson_theory.specs.Evaluation.{slow_slope_of}
use Rattle.boore_atkinson_theory.specs.Constants.{over_slow}
use Rattle.boore_atkinson_theory.proofs.SiteSizes.{slow_ln, slow_ratio, slow_term, level, slow_sized}
use Rattle.boore_atkinson_theory.proofs.Sums.{as_sized}
use Rattle.boore_atkinson_site.proofs.slow_slope.Goals as goal

pub product-ratio-requires : goal.product-ratio-requires
product-ratio-requires c =
    let p = c.requires in rw c.ln.ensures.value (product_fits (slow_ln p.0 p.1 p.2) (pair over_slow tt) tt)

pub multiple-requires : goal.multiple-requires
multiple-requires c =
    let p = c.requires in
    rw (c.product-ratio.ensures, c.ln.ensures.value)
    (multiple_fits 10_600_000 (omega arith) (slow_ratio p.0 p.1 p.2) tt)

pub sum-requires : goal.sum-requires
sum-requires c =
    let p = c.requires in
    rw (c.multiple.ensures, c.product-ratio.ensures, c.ln.ensures.value, c.exactly.ensures)
    (sum_fits (slow_term p.0 p.1 p.2) (level p.0 p.1) tt)

pub returns : goal.returns
unfolding slow_slope_of
returns c =
    let p = c.requires in
    as_sized
    (rw (c.sum.ensures, c.multiple.ensures, c.exactly.ensures, c.product-ratio.ensures, c.ln.ensures.value))
    (slow_sized p.0 p.1 p.2)
