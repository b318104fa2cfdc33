use Rattle.std.proofs.Common.{arith, refl}
use Rattle.boore_atkinson_theory.specs.Evaluation.{spread_of}
use Rattle.boore_atkinson_theory.proofs.RockSizes.{spread_bounds}
use Rattle.boore_atkinson_rock.proofs.spread.Goals as goal

pub returns : goal.returns
unfolding spread_of
returns c = (refl, omega (arith, spread_bounds c.requires.0 c.requires.2))
