use Rattle.std.proofs.Common.{arith}
use Rattle.interval_theory.proofs.SignedBounds.{moderate, plus_within}
use Rattle.boore_atkinson_theory.specs.Evaluation.{median_pair_of}
use Rattle.boore_atkinson_theory.proofs.Sums.{curve_for_lem}
use Rattle.boore_atkinson.proofs.median_by_row.Goals as goal

pub nonlinear_part-nonlinear-requires : goal.nonlinear_part-nonlinear-requires
nonlinear_part-nonlinear-requires c =
    let p = c.requires in
    (c.site_at-terms.ensures.1, p.median_domain.0.slow, p.median_domain.1, p.q_value.1)

pub plus-requires : goal.plus-requires
plus-requires c =
    (moderate c.rock-motion.ensures.1 (omega arith), moderate c.linear-linear.ensures.1 (omega arith))

pub plus-requires-2 : goal.plus-requires-2
plus-requires-2 c =
    let first = plus_within c.rock-motion.ensures.1 c.linear-linear.ensures.1 in (
      rw c.plus.ensures (moderate first (omega arith)),
      moderate c.nonlinear_part-nonlinear.ensures.1 (omega arith),
    )

pub returns : goal.returns
unfolding median_pair_of
returns c =
    rw (c.plus-2.ensures, c.plus.ensures, c.rock-motion.ensures.0, c.linear-linear.ensures.0)
    (rw (c.nonlinear_part-nonlinear.ensures.0, c.effective_distance-effective.ensures.0, c.requires.q_value.0)
    (rw (curve_for_lem, c.distance_at-row.ensures.0, c.magnitude_at.ensures.0) (rw (c.site_at-terms.ensures.0))))
