use Rattle.std.proofs.Common.{arith}
use Rattle.interval_theory.proofs.Hulls.{hull_is}
use Rattle.boore_atkinson_theory.proofs.SiteSizes.{upper_sized}
use Rattle.boore_atkinson_theory.proofs.Sums.{as_sized, branch_from_is, branch_below_is, branch_both_is}
use Rattle.boore_atkinson_site.proofs.upper.Goals as goal

pub returns-then-b-ge2407945609 : goal.returns-then-b-ge2407945609
returns-then-b-ge2407945609 c = (
  branch_from_is _ _ _ _ (omega arith) c.if-b-ge2407945609.true (rw (c.cubic.ensures.0, c.transition_z.ensures.0)),
  c.cubic.ensures.1,
)

pub returns-then-b-lt2407945608 : goal.returns-then-b-lt2407945608
returns-then-b-lt2407945608 c =
    let s = c.straight-s.ensures in (branch_below_is _ _ _ _ c.if-b-lt2407945608.true s.0, s.1)

pub returns : goal.returns
returns c =
    let p = c.requires in
    let h = c.hull.ensures in
    as_sized (branch_both_is _ _ _ _ c.if-b-lt2407945608.false (omega arith)
    (rw (c.cubic-2.ensures.0, c.transition_z-2.ensures.0)) c.straight-s.ensures.0 (hull_is _ _ h.low h.high))
    (upper_sized p.0 p.1)
