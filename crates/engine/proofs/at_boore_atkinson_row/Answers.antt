use Rattle.scenario_theory.proofs.RowLaws.{boore_atkinson_row_lem}
use Rattle.engine_theory.proofs.Assembled.{boore_atkinson_moderate, boore_atkinson_at_row}
use Rattle.engine_theory.proofs.RowLaws.{placed_at_row}
use Rattle.engine.proofs.at_boore_atkinson_row.Goals as goal

pub ends-requires : goal.ends-requires
ends-requires c = rw c.requires.rows_value (boore_atkinson_moderate c.requires.placed)

pub sigma-requires : goal.sigma-requires
sigma-requires c = let r = placed_at_row c.requires.placed in rw r.1 (boore_atkinson_row_lem _ r.0)

pub returns : goal.returns
returns c =
    rw (c.sigma.ensures.value, c.ends.ensures, c.requires.rows_value) (boore_atkinson_at_row c.requires.placed)
