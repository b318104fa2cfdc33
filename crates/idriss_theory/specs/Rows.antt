-- The rows of the tables by number, for the code alone; a row by the code's unsigned parts, and what the evaluation
-- rests on.
use Rattle.std.specs.Prelude.{◌≡◌, Bool, cond, ℕ, ◌+◌, ◌*◌, ◌≤◌, get_or}
use Rattle.toolbox_theory.specs.Whole.{up, down}
use Rattle.idriss_theory.specs.declared.Row as code
use Rattle.idriss_theory.specs.Tables.{Row, table2, table3, no_row}

-- row k of Table 3 or of Table 2, counted from 0 at 0.01 s
unfoldable pub row_at : Bool → ℕ → Row
row_at is_table3 k = get_or (cond is_table3 table3 table2) k no_row

-- a row of the paper by the code's unsigned parts
abbrev pub parts : Row → code.Row
parts r = record {
  0 = up r.α1.num;
  1 = down r.α1.num;
  2 = up r.α2.num;
  3 = down r.α2.num;
  4 = up r.α3.num;
  5 = down r.α3.num;
  6 = up r.β1.num;
  7 = down r.β2.num;
  8 = down r.ξ.num;
  9 = down r.γ.num;
  10 = up r.φ.num;
}

-- the sizes that the evaluation rests on
pub record RowLimits (r : code.Row) : Type 0 where
  pub alpha1_gain : r.0 ≤ 120_000
  pub alpha1_loss : r.1 ≤ 120_000
  pub alpha2_gain : r.2 ≤ 20_000
  pub alpha2_loss : r.3 ≤ 20_000
  pub alpha3_gain : r.4 ≤ 1_000
  pub alpha3_loss : r.5 ≤ 1_000
  pub beta1 : r.6 ≤ 30_500
  pub beta_least : r.7 * 790 + 300_000 ≤ 100 * r.6
  pub beta_most : 100 * r.6 ≤ 2_000_000 + r.7 * 450
  pub xi : r.8 ≤ 1_500
  pub gamma : r.9 ≤ 100
  pub phi : r.10 ≤ 10

-- the printed decimals
pub record Decimals (r : Row) : Type 0 where
  pub alpha1 : r.α1.den ≡ 10_000
  pub alpha2 : r.α2.den ≡ 10_000
  pub alpha3 : r.α3.den ≡ 10_000
  pub beta1 : r.β1.den ≡ 10_000
  pub beta2 : r.β2.den ≡ 10_000
  pub xi : r.ξ.den ≡ 1_000
  pub gamma : r.γ.den ≡ 10_000
  pub phi : r.φ.den ≡ 100

-- and the signs that the code's parts rest on
pub record TableLimits (r : Row) : Type 0 where
  pub sizes : RowLimits (parts r)
  pub decimals : Decimals r
  pub beta1_above : down r.β1.num ≤ 0
  pub beta2_below : up r.β2.num ≤ 0
  pub xi_below : up r.ξ.num ≤ 0
  pub gamma_below : up r.γ.num ≤ 0
  pub phi_above : down r.φ.num ≤ 0
