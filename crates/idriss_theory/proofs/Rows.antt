-- Signs, sizes and decimals of the coefficients: one test over all rows of both tables. And the row for a period is the
-- row in the place that the code looks up.
use mathlib.Core.Path.{◌≡◌, refl}
use mathlib.Core.Bool.{Bool, true, false, false≢true, cond}
use mathlib.Core.List.{List, [], ◌∷◌, map}
use Prim.Native.Nat.{ℕ, ◌+◌, ◌*◌, ◌<◌}
use borrow.Author.Rules.{rules}
use lib.Dec.{eqb, eqb→eq}
use Rattle.toolbox_theory.specs.Whole.{up, down}
use Rattle.toolbox_theory.specs.Lists.{among}
use Rattle.toolbox_theory.proofs.Tests.{by_test, AllLe, equal, row_within}
use Rattle.toolbox_theory.proofs.ListLaws.{lookup_at, lookup_key}
use Rattle.exact_theory.specs.Fraction.{◌over◌}
use Rattle.scenario_theory.specs.Refusal.{idriss}
use Rattle.scenario_theory.specs.Neighbours.{idriss_printed}
use Rattle.scenario_theory.specs.Rows.{idriss_row, row_count}
use Rattle.idriss_theory.specs.declared.Row as code
use Rattle.idriss_theory.specs.Tables.{Row, table2, table3, no_row, row_in}
use Rattle.idriss_theory.specs.Rows.{row_at, parts, TableLimits}

-- the limits, each as two numbers in order
abbrev limits : Row → List (ℕ × ℕ)
limits r =
    let p : code.Row = parts r in
    (p.0, 120_000) ∷ (p.1, 120_000) ∷ (p.2, 20_000) ∷ (p.3, 20_000) ∷ (p.4, 1_000) ∷ (p.5, 1_000) ∷
    (p.6, 30_500) ∷
    (p.7 * 790 + 300_000, 100 * p.6) ∷ (100 * p.6, 2_000_000 + p.7 * 450) ∷ (p.8, 1_500) ∷ (p.9, 100) ∷
    (p.10, 10) ∷ (down r.β1.num, 0) ∷ (up r.β2.num, 0) ∷ (up r.ξ.num, 0) ∷ (up r.γ.num, 0) ∷
    (down r.φ.num, 0) ∷
    equal ((r.α1.den, 10_000) ∷ (r.α2.den, 10_000) ∷ (r.α3.den, 10_000) ∷ (r.β1.den, 10_000) ∷
    (r.β2.den, 10_000) ∷ (r.ξ.den, 1_000) ∷ (r.γ.den, 10_000) ∷ (r.φ.den, 100) ∷ [])

in_order : (r : Row) → AllLe (limits r) → TableLimits r
in_order r h = search rules

pub row_limits : (is_table3 : Bool) (k : ℕ) → k < row_count → TableLimits (row_at is_table3 k)
unfolding row_at up down ◌over◌
row_limits true k h = in_order _ (row_within limits _ table3 tt k h)
row_limits false k h = in_order _ (row_within limits _ table2 tt k h)

-- ---- the row for a period is the one that is printed with it

periods_printed : (is_table3 : Bool) → map (λ r. r.period) (cond is_table3 table3 table2) ≡ idriss.periods
periods_printed true = refl
periods_printed false = refl

own_tabled : (period : ℕ) → among idriss.periods period ≡ true → idriss_printed period ≡ period
own_tabled period e =
    by_test (eqb period 0) (λ t. t ≡ period) (λ z. absurd (false≢true (rw (eqb→eq period 0 z) at e))) (λ z. refl)

module _ (is_table3 : Bool) (period : ℕ) where
  pub row_printed : among idriss.periods period ≡ true → (row_in (cond is_table3 table3 table2) period).period ≡ period
  unfolding row_in
  row_printed e =
      rw (own_tabled period e)
      (lookup_key (λ r. r.period) no_row (cond is_table3 table3 table2) period (rw (periods_printed is_table3) e))

  -- and the one in the place that the code looks up
  pub row_at_lem : row_in (cond is_table3 table3 table2) period ≡ row_at is_table3 (idriss_row period)
  unfolding row_in row_at idriss_row
  row_at_lem =
      rw (
        lookup_at (λ r. r.period) no_row (cond is_table3 table3 table2) (idriss_printed period),
        periods_printed is_table3,
      ) refl

-- "Period 0 uses the row 0.01"
pub peak_printed : (is_table3 : Bool) → (row_in (cond is_table3 table3 table2) 0).period ≡ 10
unfolding row_in
peak_printed true = refl
peak_printed false = refl
