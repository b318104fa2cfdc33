-- The periods of the rows of a place, by a list of the periods of the rows.
use mathlib.Core.Path.{◌≡◌, refl, ◌∙◌}
use mathlib.Core.Bool.{Bool, true, false, cond}
use mathlib.Core.List.{List, ◌∷◌}
use Prim.Native.Nat.{ℕ, ◌<◌}
use native.Mathlib.Omega.{arith}
use lib.Dec.{eqb}
use lib.ListN.{get_or}
use Rattle.toolbox_theory.specs.Lists.{among}
use Rattle.std.proofs.lemmas.Bool.{or_right}
use Rattle.std.specs.Prelude.{Option, Some, None, Result, Ok, Err}
use Rattle.scenario_theory.specs.declared.Place.{Place}
use Rattle.scenario_theory.specs.declared.Place.TheVariants as P
use Rattle.scenario_theory.specs.declared.Refusal.{Refusal}
use Rattle.scenario_theory.specs.declared.Refusal.TheVariants as E
use Rattle.scenario_theory.specs.declared.RowPeriods.{RowPeriods}
use Rattle.scenario_theory.specs.Checks.{◌when◌, unless_refused}
use Rattle.scenario_theory.specs.Refusal.{Limits, idriss, boore_atkinson, beyond_periods}
use Rattle.scenario_theory.specs.Neighbours.{has_row, neighbour_below, neighbour_above, idriss_printed}
use Rattle.scenario_theory.specs.Neighbours.{row_periods_by}
use Rattle.scenario_theory.specs.Rows.{BetweenRows, place_by, idriss_row, boore_atkinson_row, row_count}
use Rattle.scenario_theory.specs.Rows.{idriss_place}
use Rattle.scenario_theory.specs.Rows.{boore_atkinson_place, periods_at, InTable, first_in}
use Rattle.scenario_theory.proofs.RowLaws.{Listed, place, placed, between_rows, idriss_row_lem, boore_atkinson_row_lem}
use Rattle.scenario_theory.proofs.RowLaws.{idriss_listed, boore_atkinson_listed, idriss_printed_lem}
use Rattle.scenario_theory.proofs.RowLaws.{printed_itself, boore_atkinson_printed}

-- of a look-up
abbrev pub periods_found : List ℕ → Option Place → Result RowPeriods Refusal
periods_found list (Some p) = Ok (periods_at list p)
periods_found list None = Err E.Period

abbrev pub Tabled : Option Place → Type 0
Tabled (Some p) = InTable p
Tabled None = Unit {0}

module _ (first : ℕ) (m : Limits) (row : ℕ → ℕ) (l : Listed first m row)
    (few : (t : ℕ) → has_row m t ≡ true → row t < row_count) (t : ℕ) where
  tabled_at : (t : ℕ) → among m.periods t ≡ true → has_row m t ≡ true
  tabled_at t e = or_right (eqb t 0) _ e

  -- what holds of the place by the definitions holds of that by counting
  by_place : (K : Option Place → Type 0) → (beyond_periods t ≡ true → K None) →
      (has_row m t ≡ true → beyond_periods t ≡ false → K (Some (P.Row (row t)))) →
      (BetweenRows m row t → has_row m t ≡ false → beyond_periods t ≡ false →
      K (Some (P.Between (row (neighbour_below m t))))) → K (place first m row t)
  by_place K out at between = rw (placed first m row l t) (outside (beyond_periods t) refl)
    where
      tabled : (b : Bool) → has_row m t ≡ b → beyond_periods t ≡ false →
          K (Some (cond b (P.Row (row t)) (P.Between (row (neighbour_below m t)))))
      tabled true e ok = at e ok
      tabled false e ok = between (between_rows first m row l t e ok) e ok

      outside : (b : Bool) → beyond_periods t ≡ b →
          K (unless_refused (6 when b) (Some (place_by m row t)) None)
      outside true e = out e
      outside false e = tabled (has_row m t) refl e

  in_table : Tabled (place first m row t)
  in_table =
      by_place Tabled (λ _. tt) (λ e _. few t e)
      (λ b _ _. omega (arith, few (neighbour_above m t) (tabled_at _ b.second), b.next))

  periods_by_row : (printed : ℕ → ℕ) (list : List ℕ) →
      ((t : ℕ) → has_row m t ≡ true → get_or list (row t) 0 ≡ printed t) →
      ((t : ℕ) → among m.periods t ≡ true → printed t ≡ t) →
      periods_found list (place first m row t) ≡ row_periods_by m printed t
  unfolding row_periods_by
  periods_by_row printed list reads same =
      let at : (t : ℕ) → among m.periods t ≡ true → get_or list (row t) 0 ≡ t =
      λ t e. reads t (tabled_at t e) ∙ same t e in
      by_place (λ c. periods_found list c ≡ row_periods_by m printed t) (λ e. rw e refl)
      (λ e ok. rw (ok, e, reads t e) refl)
      (λ b e ok. rw (ok, e, ← b.next, at _ b.first, at _ b.second) refl)

pub idriss_in_table : (t : ℕ) → Tabled (idriss_place t)
unfolding idriss_place
idriss_in_table t = in_table 0 idriss idriss_row idriss_listed idriss_row_lem t

pub boore_atkinson_in_table : (t : ℕ) → Tabled (boore_atkinson_place t)
unfolding boore_atkinson_place
boore_atkinson_in_table t = in_table 1 boore_atkinson boore_atkinson_row boore_atkinson_listed boore_atkinson_row_lem t

pub idriss_periods_lem : (t : ℕ) →
    periods_found idriss.periods (idriss_place t) ≡ row_periods_by idriss idriss_printed t
unfolding idriss_place
idriss_periods_lem t =
    periods_by_row 0 idriss idriss_row idriss_listed idriss_row_lem t idriss_printed idriss.periods idriss_printed_lem
    printed_itself

pub boore_atkinson_periods : (t : ℕ) →
    periods_found (0 ∷ boore_atkinson.periods) (boore_atkinson_place t) ≡ row_periods_by boore_atkinson (λ t. t) t
unfolding boore_atkinson_place
boore_atkinson_periods t =
    periods_by_row 1 boore_atkinson boore_atkinson_row boore_atkinson_listed boore_atkinson_row_lem t (λ t. t)
    (0 ∷ boore_atkinson.periods) boore_atkinson_printed (λ t e. refl)

-- the first of the rows of a place is in the table where the last is
pub first_in_table : (p : Place) → InTable p → first_in p < row_count
first_in_table (P.Row k) h = h
first_in_table (P.Between k) h = omega (arith, h)
