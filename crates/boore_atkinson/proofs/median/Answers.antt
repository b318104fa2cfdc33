use Rattle.std.proofs.Common.{arith, refl}
use Rattle.interval_theory.proofs.SignedBounds.{moderate}
use Rattle.boore_atkinson_theory.specs.Evaluation.{median_of}
use Rattle.boore_atkinson_theory.proofs.Laws.{median_pair_of_sized, median_of_promise}
use Rattle.boore_atkinson.proofs.median.Goals as goal

pub ends-requires : goal.ends-requires
ends-requires c =
    rw c.median_by_row.ensures (moderate (median_pair_of_sized c.args.s.mechanism c.requires) (omega arith))

pub returns : goal.returns
unfolding median_of
returns c =
    rw (c.ends.ensures, c.median_by_row.ensures)
    record { value = refl; median_ends = median_of_promise c.args.s.mechanism c.requires }
