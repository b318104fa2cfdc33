use borrow.Author.Tests.{le-leb, lt-leb, lt-ltb, le-ltb}
use Rattle.boore_atkinson_theory.specs.Evaluation.{slope_of}
use Rattle.boore_atkinson_theory.proofs.SiteSizes.{slope_sized}
use Rattle.boore_atkinson_theory.proofs.Sums.{as_sized}
use Rattle.boore_atkinson_site.proofs.slope.Goals as goal

pub returns-then-v-le1800 : goal.returns-then-v-le1800
unfolding slope_of
returns-then-v-le1800 c =
    let p = c.requires in as_sized (rw (le-leb _ _ c.if-v-le1800.true) c.exactly.ensures) (slope_sized p.0 p.1)

pub returns-then-v-le3000 : goal.returns-then-v-le3000
unfolding slope_of
returns-then-v-le3000 c =
    let p = c.requires in
    as_sized (rw (lt-leb _ _ c.if-v-le1800.false, le-leb _ _ c.if-v-le3000.true) c.slow_slope.ensures.0)
    (slope_sized p.0 p.1)

pub returns-then-v-lt7600 : goal.returns-then-v-lt7600
unfolding slope_of
returns-then-v-lt7600 c =
    let p = c.requires in
    as_sized (rw (lt-leb _ _ c.if-v-le1800.false, lt-leb _ _ c.if-v-le3000.false, lt-ltb _ _ c.if-v-lt7600.true)
    c.fast_slope.ensures.0) (slope_sized p.0 p.1)

pub returns : goal.returns
unfolding slope_of
returns c =
    let p = c.requires in
    as_sized (rw (lt-leb _ _ c.if-v-le1800.false, lt-leb _ _ c.if-v-le3000.false, le-ltb _ _ c.if-v-lt7600.false)
    c.exactly-2.ensures) (slope_sized p.0 p.1)
