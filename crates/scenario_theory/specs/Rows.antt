-- The rows of the tables by number, for the code alone: the definitions take the row that is printed with a period.
use Rattle.std.specs.Prelude.{◌≡◌, true, cond, ◌&&◌, List, ◌∷◌, ℕ, ◌+◌, ◌-◌, ◌<◌, eqb, ltb, length, get_or}
use Rattle.std.specs.Prelude.{Option, Some, None}
use Rattle.toolbox_theory.specs.Lists.{among, place_in, count_below}
use Rattle.scenario_theory.specs.declared.Place.{Place}
use Rattle.scenario_theory.specs.declared.Place.TheVariants as P
use Rattle.scenario_theory.specs.declared.RowPeriods.{RowPeriods}
use Rattle.scenario_theory.specs.Refusal.{Limits, idriss, boore_atkinson}
use Rattle.scenario_theory.specs.Neighbours.{has_row, neighbour_below, neighbour_above, idriss_printed}

-- how many there are of either model, counted from 0; the number itself stands for a period that has none
abbrev pub row_count : ℕ
row_count = 22

-- of a period in Idriss's tables, counted from 0 at 0.01 s: "Period 0 uses the row 0.01" ('Idriss')
unfoldable pub idriss_row : ℕ → ℕ
idriss_row T = place_in idriss.periods (idriss_printed T)

-- and in Boore-Atkinson's, counted from 0 at PGA: "Period 0 uses the row PGA" ('Boore-Atkinson on rock')
unfoldable pub boore_atkinson_row : ℕ → ℕ
boore_atkinson_row T = place_in (0 ∷ boore_atkinson.periods) T

-- ---- where a period that is answered stands in the tables of a model, by the row of each period

abbrev pub place_by : Limits → (ℕ → ℕ) → ℕ → Place
place_by m row T = cond (has_row m T) (P.Row (row T)) (P.Between (row (neighbour_below m T)))

-- the rows of a place, from the first to the last
abbrev pub first_in : Place → ℕ
first_in (P.Row k) = k
first_in (P.Between k) = k

abbrev pub last_in : Place → ℕ
last_in (P.Row k) = k
last_in (P.Between k) = k + 1

-- what is known of a period that is answered and has no row of its own
pub record BetweenRows (m : Limits) (row : ℕ → ℕ) (T : ℕ) : Type 0 where
  pub first : among m.periods (neighbour_below m T) ≡ true
  pub second : among m.periods (neighbour_above m T) ≡ true
  pub above : neighbour_below m T < T
  pub below : T < neighbour_above m T
  pub next : row (neighbour_above m T) ≡ row (neighbour_below m T) + 1

-- ---- the same by counting, as the code has it

-- among the periods of a list that rises, the first of which has row `first`; nowhere before all of them or after
unfoldable pub place_among : ℕ → List ℕ → ℕ → Option Place
place_among first periods T =
    let n : ℕ = count_below periods T in
    cond (among periods T) (Some (P.Row (first + n)))
    (cond (ltb 0 n && ltb n (length periods)) (Some (P.Between (first + n - 1))) None)

unfoldable pub idriss_place : ℕ → Option Place
idriss_place T = cond (eqb T 0) (Some (P.Row 0)) (place_among 0 idriss.periods T)

-- the row PGA, row 0, is no neighbour of any period
unfoldable pub boore_atkinson_place : ℕ → Option Place
boore_atkinson_place T = cond (eqb T 0) (Some (P.Row 0)) (place_among 1 boore_atkinson.periods T)

-- the periods of the rows of Idriss's tables for the model 1, of Boore-Atkinson's for any other
abbrev pub row_list : ℕ → List ℕ
row_list model = cond (eqb model 1) idriss.periods (0 ∷ boore_atkinson.periods)

-- the periods of the rows of a place, by a list of the periods of the rows; and that the list has them
abbrev pub periods_at : List ℕ → Place → RowPeriods
periods_at list p = record { lower = get_or list (first_in p) 0; upper = get_or list (last_in p) 0 }

abbrev pub InTable : Place → Type 0
InTable p = last_in p < row_count
