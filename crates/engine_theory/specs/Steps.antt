-- What private functions of the engine ask of each other; no promise to callers rests on reading it.
use Rattle.std.specs.Prelude.{ℕ, ℤ}
use Rattle.interpolation_theory.specs.declared.Step.{Step}
use Rattle.interpolation_theory.specs.declared.TwoRows.{TwoRows}
use Rattle.interpolation_theory.specs.Evaluation.{two_rows_of}
use Rattle.interpolation_theory.specs.Steps.{step_of}
use Rattle.scenario_theory.specs.declared.Basis.{Basis}
use Rattle.scenario_theory.specs.declared.Basis.TheVariants as B
use Rattle.scenario_theory.specs.Refusal.{Limits}
use Rattle.scenario_theory.specs.Neighbours.{neighbour_below, neighbour_above}
use Rattle.idriss_theory.specs.Tables.{takes_table3}
use Rattle.idriss_theory.specs.Rows.{row_at as idriss_row_at}
use Rattle.idriss_theory.specs.Evaluation.{median_pair_of as idriss_pair_of}
use Rattle.boore_atkinson_theory.specs.Rows.{row_at as boore_atkinson_row_at}
use Rattle.boore_atkinson_theory.specs.Evaluation.{median_pair_of as boore_atkinson_pair_of}
use Rattle.engine_theory.specs.declared.Enclosure.{Enclosure}
use Rattle.engine_theory.specs.Evaluation.{idriss_enclosure_of, boore_atkinson_enclosure_of}

-- the four ends by what an answer rests on, from magnitude, velocity, mechanism and period
abbrev pub enclosure_on : ℕ → ℕ → ℕ → ℕ → Basis → Enclosure ℤ
enclosure_on M Vs mechanism T (B.Idriss d p) = idriss_enclosure_of M d.0 Vs mechanism T
enclosure_on M Vs mechanism T (B.BooreAtkinson d p) = boore_atkinson_enclosure_of M d.0 Vs mechanism T

-- the step from the row below a period to the row above it
abbrev pub step_around : Limits → ℕ → Step
step_around m T = step_of T (neighbour_below m T) (neighbour_above m T)

-- the medians by row `last` and, where k is less, by the row before it
abbrev pub idriss_rows_of : ℕ → ℕ → ℕ → ℕ → ℕ → ℕ → TwoRows
idriss_rows_of M R Vs mechanism k last =
    two_rows_of k last (λ j. idriss_pair_of (idriss_row_at (takes_table3 M) j) M R Vs mechanism)

abbrev pub boore_atkinson_rows_of : ℕ → ℕ → ℕ → ℕ → ℕ → ℕ → TwoRows
boore_atkinson_rows_of M RJB Vs mechanism k last =
    two_rows_of k last (λ j. boore_atkinson_pair_of (boore_atkinson_row_at j) M RJB Vs mechanism)
