-- The rows of a model's tables that a median at a period T rests on, and Boore-Atkinson's sigma; "sigma of Idriss uses
-- T itself". Document 02, W-201: a period "that isn't tabled is answered between the two neighbouring rows of the
-- model".
use Rattle.std.specs.Prelude.{Bool, cond, ◌∷◌, ℕ, eqb, ltb, Result, Ok, Err}
use Rattle.toolbox_theory.specs.Lists.{among, filter, greatest, least}
use Rattle.scenario_theory.specs.declared.RowPeriods.{RowPeriods}
use Rattle.scenario_theory.specs.declared.Refusal.{Refusal}
use Rattle.scenario_theory.specs.declared.Refusal.TheVariants as E
use Rattle.scenario_theory.specs.Refusal.{Limits, idriss, boore_atkinson, beyond_periods}

-- 0 and "Tabled periods" have a row
abbrev pub has_row : Limits → ℕ → Bool
has_row m T = among (0 ∷ m.periods) T

-- T1, the greatest tabled period below T: "T1 and T2 the neighbours"
unfoldable pub neighbour_below : Limits → ℕ → ℕ
neighbour_below m T = greatest (filter (λ t. ltb t T) m.periods)

-- T2, the least tabled period above T
unfoldable pub neighbour_above : Limits → ℕ → ℕ
neighbour_above m T = least (filter (λ t. ltb T t) m.periods)

-- the period that Idriss's tables print with the row of a period: "Period 0 uses the row 0.01" (document 01, 'Idriss')
abbrev pub idriss_printed : ℕ → ℕ
idriss_printed T = cond (eqb T 0) 10 T

abbrev pub rows : ℕ → ℕ → Result RowPeriods Refusal
rows lower upper = Ok (record { lower = lower; upper = upper })

-- the periods of the two rows, as W-201 has them; `printed` is that of the row of a tabled period
unfoldable pub row_periods_by : Limits → (ℕ → ℕ) → ℕ → Result RowPeriods Refusal
row_periods_by m printed T =
    cond (beyond_periods T) (Err E.Period)
    (cond (has_row m T) (rows (printed T) (printed T)) (rows (neighbour_below m T) (neighbour_above m T)))

-- in the model's own tables; Boore-Atkinson's row PGA stands for the period 0
unfoldable pub row_periods_of : ℕ → ℕ → Result RowPeriods Refusal
row_periods_of model T =
    cond (eqb model 1) (row_periods_by idriss idriss_printed T)
    (cond (eqb model 2) (row_periods_by boore_atkinson (λ t. t) T) (Err E.Model))
