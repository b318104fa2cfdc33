-- The promise of the rows that C is told.
use mathlib.Core.Path.{◌≡◌, refl}
use mathlib.Core.Bool.{Bool, true, false, not, cond, ◌||◌}
use Prim.Native.Nat.{ℕ, ◌≤◌}
use native.Mathlib.Omega.{arith}
use borrow.Author.Tests.{ne_eqb}
use lib.Dec.{eqb}
use Rattle.std.specs.Prelude.{Err}
use Rattle.scenario_theory.specs.declared.Refusal.{Refusal}
use Rattle.scenario_theory.specs.declared.Refusal.TheVariants as E
use Rattle.scenario_theory.specs.Checks.{◌when◌, ◌otherwise◌}
use Rattle.scenario_theory.specs.Refusal.{Limits, idriss, boore_atkinson, beyond_periods}
use Rattle.scenario_theory.specs.Neighbours.{has_row, neighbour_below, neighbour_above, idriss_printed, rows}
use Rattle.scenario_theory.specs.Neighbours.{row_periods_by, row_periods_of}
use Rattle.scenario_theory.specs.Numbers.{refusal_number}
use Rattle.scenario_theory.specs.Rows.{idriss_row, boore_atkinson_row, BetweenRows}
use Rattle.scenario_theory.proofs.RowLaws.{idriss_between, boore_atkinson_between}
use Rattle.host_theory.specs.declared.HostPeriods.{HostPeriods}
use Rattle.host_theory.specs.Told.{told_periods}
use Rattle.host_theory.specs.Promise.{rows_refusal, HostRowsPromise}

refused_keeps : (r : Refusal) (T : ℕ) → 1 ≤ refusal_number r →
    HostRowsPromise (refusal_number r) T (told_periods (Err r))
refused_keeps r T some = record {
  number = refl;
  below = λ h _. absurd (omega (arith, h));
  above = λ h _. absurd (omega (arith, h));
  zeros = λ _. (refl, refl);
}

rows_keep : (T lower upper : ℕ) → (1 ≤ T → lower ≤ T) → (1 ≤ T → T ≤ upper) →
    HostRowsPromise 0 T (told_periods (rows lower upper))
rows_keep T lower upper below above =
    record { number = refl; below = λ _. below; above = λ _. above; zeros = λ h. absurd (h refl) }

-- by any model
module _ (m : Limits) (row printed : ℕ → ℕ) (T : ℕ) (same : 1 ≤ T → printed T ≡ T)
    (between : has_row m T ≡ false → beyond_periods T ≡ false → BetweenRows m row T) where
  by_tabled : (b : Bool) → has_row m T ≡ b → beyond_periods T ≡ false →
      HostRowsPromise 0 T
      (told_periods (cond b (rows (printed T) (printed T)) (rows (neighbour_below m T) (neighbour_above m T))))
  by_tabled true e ok = rows_keep T _ _ (λ h. omega (arith, same h)) (λ h. omega (arith, same h))
  by_tabled false e ok =
      let b = between e ok in rows_keep T _ _ (λ _. omega (arith, b.above)) (λ _. omega (arith, b.below))

  by_outside : (b : Bool) → beyond_periods T ≡ b → HostRowsPromise (6 when b) T (told_periods (cond b (Err E.Period)
      (cond (has_row m T) (rows (printed T) (printed T)) (rows (neighbour_below m T) (neighbour_above m T)))))
  by_outside true e = refused_keeps E.Period T (omega arith)
  by_outside false e = by_tabled (has_row m T) refl e

  promised : HostRowsPromise (6 when beyond_periods T) T (told_periods (row_periods_by m printed T))
  unfolding row_periods_by
  promised = by_outside (beyond_periods T) refl

-- by the model of this number
by_model_lem : (first second : Bool) (T : ℕ) →
    HostRowsPromise (1 when not (first || second) otherwise 6 when beyond_periods T) T
    (told_periods (cond first (row_periods_by idriss idriss_printed T)
    (cond second (row_periods_by boore_atkinson (λ t. t) T) (Err E.Model))))
by_model_lem true second T =
    promised idriss idriss_row idriss_printed T (λ h. rw (ne_eqb T 0 (λ e. omega arith)) refl) (idriss_between T)
by_model_lem false true T = promised boore_atkinson boore_atkinson_row (λ t. t) T (λ _. refl) (boore_atkinson_between T)
by_model_lem false false T = refused_keeps E.Model T (omega arith)

-- every struct of which the contract says `r ≡ ..` keeps the promise
pub rows_told : {r : HostPeriods} (model T : ℕ) → r ≡ told_periods (row_periods_of model T) →
    (r ≡ told_periods (row_periods_of model T)) × HostRowsPromise (rows_refusal model T) T r
unfolding row_periods_of
rows_told model T e = (e, rw e (by_model_lem (eqb model 1) (eqb model 2) T))
