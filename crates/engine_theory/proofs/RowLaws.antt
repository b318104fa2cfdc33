-- The place of a period in the tables of its model, and the step between two rows.
use mathlib.Core.Path.{◌≡◌, refl, sym, ◌∙◌}
use mathlib.Core.Bool.{true, false, ◌&&◌}
use mathlib.Core.List.{List, ◌∷◌}
use Prim.Native.Nat.{ℕ, ◌+◌, ◌≤◌, ◌<◌}
use native.Mathlib.Omega.{arith}
use lib.Dec.{T as Holds, eqb, leb, leb→le}
use lib.ListN.{get_or}
use Rattle.toolbox_theory.specs.Lists.{among}
use Rattle.toolbox_theory.proofs.Tests.{each}
use Rattle.toolbox_theory.proofs.ListLaws.{all, all_at}
use Rattle.std.proofs.lemmas.Bool.{or_right}
use Rattle.logarithm_theory.specs.Promise.{LnDomain}
use Rattle.logarithm_theory.specs.Evaluation.{ln_of}
use Rattle.interpolation_theory.specs.declared.Neighbours.{Neighbours}
use Rattle.interpolation_theory.specs.declared.Step.{Step}
use Rattle.interpolation_theory.specs.Steps.{neighbours_of, step_of, StepAt}
use Rattle.scenario_theory.specs.declared.Place.{Place}
use Rattle.scenario_theory.specs.declared.Place.TheVariants as P
use Rattle.scenario_theory.specs.Refusal.{Limits, idriss, boore_atkinson, beyond_periods}
use Rattle.scenario_theory.specs.Neighbours.{has_row, neighbour_below, neighbour_above}
use Rattle.scenario_theory.specs.Rows.{idriss_row, boore_atkinson_row, row_count, BetweenRows}
use Rattle.scenario_theory.specs.Accepted.{Placed}
use Rattle.scenario_theory.proofs.RowLaws.{idriss_row_lem, boore_atkinson_row_lem, idriss_printed_lem, printed_itself}
use Rattle.scenario_theory.proofs.RowLaws.{boore_atkinson_printed}
use Rattle.scenario_theory.proofs.RowLaws.{idriss_between, boore_atkinson_between, at_row, between_of_lem}
use Rattle.scenario_theory.specs.Rows.{first_in, last_in}
use Rattle.engine_theory.specs.Steps.{step_around}

-- ---- from the row below a period to the row above it

-- what is known of the tables of a model, where a list has the period of each row
pub record Tabled (m : Limits) (row : ℕ → ℕ) (list : List ℕ) : Type 0 where
  pub listed : (t : ℕ) → among m.periods t ≡ true → t ≡ get_or list (row t) 0
  pub few : (t : ℕ) → has_row m t ≡ true → row t < row_count
  pub sizes : Holds (all (λ t. leb 1 t && leb t 10_000) m.periods)
  pub between : (t : ℕ) → has_row m t ≡ false → beyond_periods t ≡ false → BetweenRows m row t

pub idriss_tabled : Tabled idriss idriss_row idriss.periods
idriss_tabled = record {
  listed = λ t e. sym (idriss_printed_lem t (or_right (eqb t 0) _ e) ∙ printed_itself t e);
  few = idriss_row_lem;
  sizes = tt;
  between = idriss_between;
}

pub boore_atkinson_tabled : Tabled boore_atkinson boore_atkinson_row (0 ∷ boore_atkinson.periods)
boore_atkinson_tabled = record {
  listed = λ t e. sym (boore_atkinson_printed t (or_right (eqb t 0) _ e));
  few = boore_atkinson_row_lem;
  sizes = tt;
  between = boore_atkinson_between;
}

-- of a period without a row
pub record OnStep (m : Limits) (row : ℕ → ℕ) (list : List ℕ) (T : ℕ) : Type 0 where
  pub rows : BetweenRows m row T
  pub step : StepAt list (row (neighbour_below m T)) (step_around m T)
  pub last : row (neighbour_below m T) + 1 < row_count
  pub domain : LnDomain T (neighbour_below m T)

-- of one whose place is after row k
pub record PlacedOnStep (m : Limits) (row : ℕ → ℕ) (list : List ℕ) (T k : ℕ) : Type 0 where
  pub none : has_row m T ≡ false
  pub row_is : k ≡ row (neighbour_below m T)
  pub on_step : OnStep m row list T

-- of one whose place is at row k
pub placed_at_row : {m : Limits} {row : ℕ → ℕ} {M R Vs mechanism T k : ℕ} →
    Placed m row M R Vs mechanism T (P.Row k) → (has_row m T ≡ true) × (k ≡ row T)
placed_at_row {m} {row} {T = T} t = at_row m row T (sym t.place)

module _ {m : Limits} {row : ℕ → ℕ} {list : List ℕ} (tabled : Tabled m row list) where
  -- a tabled period is a number whose logarithm is taken
  size : (t : ℕ) → among m.periods t ≡ true → (1 ≤ t) × (t ≤ 10_000)
  size t e =
      each (leb 1 t) (leb t 10_000) (leb→le _ _) (leb→le _ _)
      (all_at (λ t. leb 1 t && leb t 10_000) m.periods t tabled.sizes e)

  pub on_step : (T : ℕ) → has_row m T ≡ false → beyond_periods T ≡ false → OnStep m row list T
  on_step T none ok =
      let b = tabled.between T none ok in
      let low = size (neighbour_below m T) b.first in
      let high = size (neighbour_above m T) b.second in
      record {
        rows = b;
        step = record {
          is = refl;
          lower = tabled.listed _ b.first;
          upper = rw (← b.next) (tabled.listed _ b.second);
          above = b.above;
          below = b.below;
        };
        last = rw (← b.next) (tabled.few _ (or_right (eqb (neighbour_above m T) 0) _ b.second));
        domain = omega (arith, low, high, b.above, b.below);
      }

  module _ {M R Vs mechanism T : ℕ} where
    pub placed_on_step : {k : ℕ} → Placed m row M R Vs mechanism T (P.Between k) → PlacedOnStep m row list T k
    placed_on_step t =
        let b = between_of_lem m row T (sym t.place) in
        record { none = b.0; row_is = b.1; on_step = on_step T b.0 t.within.period_answered }

    -- the last row of a place is in the tables
    pub last_placed : (p : Place) → Placed m row M R Vs mechanism T p → last_in p < row_count
    last_placed (P.Row k) t = let r = placed_at_row t in rw r.1 (tabled.few _ r.0)
    last_placed (P.Between k) t = let r = placed_on_step t in rw r.row_is r.on_step.last

-- what the code makes of the rows of such a period
module _ {m : Limits} {row : ℕ → ℕ} {list : List ℕ} {T k : ℕ} (t : PlacedOnStep m row list T k)
    {n : Neighbours} (rows : n ≡ neighbours_of (get_or list k 0) (get_or list (k + 1) 0)) where
  neighbours_are : n ≡ neighbours_of (neighbour_below m T) (neighbour_above m T)
  neighbours_are = let step = t.on_step.step in rows ∙ rw (t.row_is, ← step.lower, ← step.upper) refl

  pub step_domain : LnDomain T n.lower × (n.whole ≡ ln_of n.upper n.lower)
  step_domain = rw neighbours_are (t.on_step.domain, refl)

  pub step_is : {r : Step} → r ≡ step_of T n.lower n.upper → r ≡ step_around m T
  step_is e = e ∙ rw neighbours_are refl

-- the row PGA is no neighbour
pub not_first : {T : ℕ} → BetweenRows boore_atkinson boore_atkinson_row T →
    1 ≤ boore_atkinson_row (neighbour_below boore_atkinson T)
unfolding boore_atkinson_row
not_first {T} b =
    leb→le 1 (boore_atkinson_row (neighbour_below boore_atkinson T))
    (all_at (λ t. leb 1 (boore_atkinson_row t)) boore_atkinson.periods (neighbour_below boore_atkinson T) tt b.first)

pub first_last : (p : Place) → first_in p ≤ last_in p
first_last (P.Row k) = omega arith
first_last (P.Between k) = omega arith
