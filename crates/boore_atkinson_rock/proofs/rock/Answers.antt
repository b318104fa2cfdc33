use Rattle.boore_atkinson_theory.specs.Evaluation.{rock_of}
use Rattle.boore_atkinson_theory.proofs.RockSizes.{magnitude_bounds, rock_sized}
use Rattle.boore_atkinson_theory.proofs.Sums.{as_signed}
use Rattle.boore_atkinson_rock.proofs.rock.Goals as goal

pub magnitude_term-g-requires : goal.magnitude_term-g-requires
magnitude_term-g-requires c = let p = c.requires in (p.1, magnitude_bounds p.1 p.2 p.3)

pub returns : goal.returns
unfolding rock_of
returns c =
    let g = c.magnitude_term-g.ensures in
    let p = c.requires in
    as_signed (rw (c.exactly.ensures, c.fall-f.ensures.0, g.0))
    (rock_sized c.args.q c.args.mechanism p.0 (rw g.0 at g.1) p.3 p.4)
