use Rattle.std.proofs.Common.{arith}
use borrow.Author.Tests.{lt-ltb, le-ltb}
use Rattle.boore_atkinson_theory.specs.Evaluation.{linear_of, vs30_ln_of}
use Rattle.interval_theory.proofs.Bounded.{multiple_fits}
use Rattle.boore_atkinson_theory.proofs.SiteSizes.{vs30_ln, linear_sized}
use Rattle.boore_atkinson_theory.proofs.Sums.{as_signed}
use Rattle.boore_atkinson_site.proofs.linear.Goals as goal

pub multiple-term-requires : goal.multiple-term-requires
multiple-term-requires c =
    let p = c.requires in multiple_fits 15_000_000 (omega arith) (vs30_ln p.3 p.1 p.2) tt

pub returns-then-v-lt7600 : goal.returns-then-v-lt7600
unfolding linear_of vs30_ln_of
returns-then-v-lt7600 c =
    let p = c.requires in
    as_signed (rw (c.multiple-term.ensures, c.exactly.ensures, p.3, lt-ltb _ _ c.if-v-lt7600.true))
    (linear_sized p.0 p.1 p.2)

pub returns : goal.returns
unfolding linear_of vs30_ln_of
returns c =
    let p = c.requires in
    as_signed (rw (c.multiple-term.ensures, c.exactly-2.ensures, p.3, le-ltb _ _ c.if-v-lt7600.false))
    (linear_sized p.0 p.1 p.2)
