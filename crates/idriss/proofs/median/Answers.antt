use Rattle.std.proofs.Common.{arith, refl}
use Rattle.interval_theory.proofs.SignedBounds.{moderate}
use Rattle.idriss_theory.specs.Evaluation.{median_of}
use Rattle.idriss_theory.proofs.Laws.{median_pair_of_sized, median_of_promise}
use Rattle.idriss.proofs.median.Goals as goal

pub ends-requires : goal.ends-requires
ends-requires c =
    rw (c.median_by_row.ensures, c.vs30_ln-ln_v.ensures.0, c.distance_ln-ln_r.ensures.0)
    (moderate (median_pair_of_sized c.args.table_3 c.args.s.mechanism c.requires) (omega arith))

pub returns : goal.returns
unfolding median_of
returns c =
    rw (c.ends.ensures, c.median_by_row.ensures, c.vs30_ln-ln_v.ensures.0, c.distance_ln-ln_r.ensures.0)
    record { value = refl; median_ends = median_of_promise c.args.table_3 c.args.s.mechanism c.requires }
