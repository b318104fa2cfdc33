use Rattle.interval_theory.proofs.Bounded.{given, pair, product_fits, sum_fits}
use Rattle.boore_atkinson_theory.specs.Evaluation.{cubic_of}
use Rattle.boore_atkinson_theory.specs.Constants.{c_over, d_over}
use Rattle.boore_atkinson_theory.proofs.SiteSizes.{square, cube, first, second, cubic_sized}
use Rattle.boore_atkinson_theory.proofs.Sums.{as_sized}
use Rattle.boore_atkinson_site.proofs.cubic.Goals as goal

pub product-requires : goal.product-requires
product-requires c = rw c.product-square.ensures (product_fits (pair c_over tt) (square (given c.requires)) tt)

pub product-requires-2 : goal.product-requires-2
product-requires-2 c = let z = given c.requires in rw c.product-square.ensures (product_fits (square z) z tt)

pub product-requires-3 : goal.product-requires-3
product-requires-3 c =
    rw (c.product-2.ensures, c.product-square.ensures)
    (product_fits (pair d_over tt) (cube (given c.requires)) tt)

pub sum-requires : goal.sum-requires
sum-requires c =
    let z = given c.requires in
    rw (c.product.ensures, c.product-3.ensures, c.product-2.ensures, c.product-square.ensures)
    (sum_fits (first z) (second z) tt)

pub returns : goal.returns
unfolding cubic_of
returns c =
    as_sized
    (rw (c.sum.ensures, c.product.ensures, c.product-3.ensures, c.product-2.ensures, c.product-square.ensures))
    (cubic_sized c.requires)
