use Rattle.std.proofs.Common.{arith}
use borrow.Author.Tests.{lt-ltb}
use Rattle.interval_theory.proofs.Bounded.{pair, multiple_fits, product, product_fits}
use Rattle.boore_atkinson_theory.specs.Evaluation.{fast_slope_of, vs30_ln_of}
use Rattle.boore_atkinson_theory.specs.Constants.{over_fast}
use Rattle.boore_atkinson_theory.proofs.SiteSizes.{vs30_ln, fast_sized}
use Rattle.boore_atkinson_theory.proofs.Sums.{as_sized}
use Rattle.boore_atkinson_site.proofs.fast_slope.Goals as goal

pub product-ratio-requires : goal.product-ratio-requires
product-ratio-requires c =
    product_fits (vs30_ln c.requires.3 (omega arith) (omega arith)) (pair over_fast tt) tt

pub multiple-requires : goal.multiple-requires
multiple-requires c =
    let l = vs30_ln c.requires.3 (omega arith) (omega arith) in
    rw c.product-ratio.ensures (multiple_fits 3_800_000 (omega arith) (product l (pair over_fast tt)) tt)

pub returns : goal.returns
unfolding fast_slope_of vs30_ln_of
returns c =
    let p = c.requires in
    as_sized (rw (c.multiple.ensures, c.product-ratio.ensures, p.3, lt-ltb _ _ p.2)) (fast_sized p.0 (omega arith) p.2)
