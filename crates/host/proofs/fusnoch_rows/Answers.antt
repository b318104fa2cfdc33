use mathlib.Core.Path.{ap, ◌∙◌}
use Rattle.host_theory.specs.Told.{told_periods}
use Rattle.host_theory.proofs.RowLaws.{rows_told}
use Rattle.host.proofs.fusnoch_rows.Goals as goal

pub returns-clause-host_rows_promise : goal.returns-clause-host_rows_promise
returns-clause-host_rows_promise c = (rows_told _ _ (c.into.ensures ∙ ap told_periods c.row_periods.ensures)).1
