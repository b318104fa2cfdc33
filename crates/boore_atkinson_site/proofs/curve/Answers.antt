use Rattle.std.proofs.Common.{arith}
use Rattle.interval_theory.proofs.Hulls.{hull_is}
use Rattle.boore_atkinson_theory.specs.Evaluation.{curve_of}
use Rattle.boore_atkinson_theory.proofs.SiteSizes.{curve_sized}
use Rattle.boore_atkinson_theory.proofs.Sums.{as_sized, branch_from_is, branch_below_is, branch_both_is}
use Rattle.boore_atkinson_site.proofs.curve.Goals as goal

pub returns-then-b-ge3506557898 : goal.returns-then-b-ge3506557898
unfolding curve_of
returns-then-b-ge3506557898 c =
    as_sized (branch_from_is _ _ _ _ (omega arith) c.if-b-ge3506557898.true c.exactly.ensures)
    (curve_sized c.requires)

pub returns-then-b-lt3506557897 : goal.returns-then-b-lt3506557897
unfolding curve_of
returns-then-b-lt3506557897 c =
    let u = c.upper-u.ensures in (branch_below_is _ _ _ _ c.if-b-lt3506557897.true u.0, u.1)

pub returns : goal.returns
unfolding curve_of
returns c =
    let h = c.hull.ensures in
    as_sized (branch_both_is _ _ _ _ c.if-b-lt3506557897.false (omega arith) c.exactly-2.ensures c.upper-u.ensures.0
    (hull_is _ _ h.low h.high)) (curve_sized c.requires)
