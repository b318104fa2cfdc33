use Rattle.interval_theory.proofs.Bounded.{sum_fits}
use Rattle.boore_atkinson_theory.specs.Evaluation.{fall_of}
use Rattle.boore_atkinson_theory.proofs.RockSizes.{spreading, anelastic, fall_sized}
use Rattle.boore_atkinson_theory.proofs.Sums.{as_sized}
use Rattle.boore_atkinson_rock.proofs.fall.Goals as goal

pub sum-requires : goal.sum-requires
sum-requires c =
    let p = c.requires in
    rw (c.multiple-spreading.ensures, c.multiple-anelastic.ensures, c.spread.ensures.0)
    (sum_fits (spreading p.0 p.2 p.3) (anelastic p.0 p.2 p.3) tt)

pub returns : goal.returns
unfolding fall_of
returns c =
    let p = c.requires in
    as_sized (rw (c.sum.ensures, c.multiple-spreading.ensures, c.multiple-anelastic.ensures, c.spread.ensures.0))
    (fall_sized p.0 p.2 p.3)
