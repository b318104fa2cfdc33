use Rattle.boore_atkinson_theory.proofs.Accepted.{median_domain}
use Rattle.engine_theory.proofs.RowLaws.{boore_atkinson_tabled, last_placed, first_last}
use Rattle.engine.proofs.by_boore_atkinson.Goals as goal

pub last-requires : goal.last-requires
last-requires c = last_placed boore_atkinson_tabled _ c.requires

pub median_rows-rows-requires : goal.median_rows-rows-requires
median_rows-rows-requires c =
    rw (c.last.ensures, c.first.ensures)
    (median_domain (last_placed boore_atkinson_tabled _ c.requires) c.requires.within, first_last c.args.place)
