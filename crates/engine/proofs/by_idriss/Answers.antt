use mathlib.Core.Path.{refl}
use Rattle.idriss_theory.proofs.Accepted.{median_domain}
use Rattle.engine_theory.specs.Evaluation.{idriss_enclosure_of}
use Rattle.engine_theory.proofs.RowLaws.{idriss_tabled, last_placed, first_last}
use Rattle.engine.proofs.by_idriss.Goals as goal

pub last-requires : goal.last-requires
last-requires c = last_placed idriss_tabled _ c.requires

pub median_rows-rows-requires : goal.median_rows-rows-requires
median_rows-rows-requires c =
    rw (c.last.ensures, c.first.ensures)
    (median_domain (last_placed idriss_tabled _ c.requires) c.requires.within, first_last c.args.place)

pub returns : goal.returns
unfolding idriss_enclosure_of
returns c = rw (c.sigma.ensures.value, c.idriss_median.ensures) refl
