use Rattle.std.proofs.Common.{arith, refl}
use Rattle.boore_atkinson_theory.specs.Evaluation.{sigma_pair_of}
use Rattle.boore_atkinson_theory.proofs.Laws.{sigma_pair_of_sized}
use Rattle.boore_atkinson_sigma.proofs.sigma_by_row.Goals as goal

pub returns : goal.returns
unfolding sigma_pair_of
returns c =
    rw (c.total.ensures, c.total_at.ensures)
    (refl, omega (arith, sigma_pair_of_sized c.args.k c.args.mechanism c.requires))
