use Rattle.std.proofs.Common.{arith, ◌≤◌}
use Rattle.boore_atkinson_theory.specs.Evaluation.{minus_p_of}
use Rattle.boore_atkinson_theory.proofs.RockSizes.{pga_order, minus_p_sized}
use Rattle.boore_atkinson_theory.proofs.Sums.{as_sized}
use Rattle.boore_atkinson_rock.proofs.minus_p.Goals as goal

-- the gain is at most the loss: −p is above zero
pub overflow_sub-result : goal.overflow_sub-result
overflow_sub-result c =
    rw (c.rock-a.ensures.0, c.magnitude_at.ensures.0)
    (pga_order c.args.mechanism _ c.distance_at-r.ensures.1 c.requires.1)

pub overflow_sub-result-2 : goal.overflow_sub-result-2
overflow_sub-result-2 c =
    let order : c.rock-a.result.gain.low ≤ c.rock-a.result.loss.low =
    rw (c.rock-a.ensures.0, c.magnitude_at.ensures.0)
    (pga_order c.args.mechanism _ c.distance_at-r.ensures.1 c.requires.1) in
    omega (arith, order, c.rock-a.ensures.1.loss)

pub returns : goal.returns
unfolding minus_p_of
returns c =
    let p = c.requires in
    as_sized
    (rw (c.rock-a.ensures.0, c.effective_distance-s.ensures.0, c.distance_at-r.ensures.0, c.magnitude_at.ensures.0))
    (minus_p_sized c.args.mechanism p.0 p.1 p.2)
