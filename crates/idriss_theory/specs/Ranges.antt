-- Where the medians by the rows of either table lie, and how far those by neighbouring rows are apart, in units of
-- 10^-9: at every magnitude of the model, also where the other table holds. proofs/Ranges shows it.
use Rattle.std.specs.Prelude.{Bool, ℕ, ◌+◌}
use Rattle.interval_theory.specs.Bound.{Ranges, Near}
use Rattle.idriss_theory.specs.Rows.{row_at}
use Rattle.idriss_theory.specs.Evaluation.{median_pair_of}

-- from −16 to 2: from −13.97, by Table 2 at 10 s, M 4.50, 175 km and 1200 m/s, to 1.56, by Table 2 at 0.2 s, M 7.90,
-- 0 km, 450 m/s and code 2; where each table holds, to 1.13
abbrev pub median_least : ℕ
median_least = 16_000_000_000

abbrev pub median_most : ℕ
median_most = 2_000_000_000

-- by row k
abbrev pub MedianRanges : Bool → ℕ → ℕ → ℕ → ℕ → ℕ → Type 0
MedianRanges is_table3 k m d v mechanism =
    Ranges median_least median_most (median_pair_of (row_at is_table3 k) m d v mechanism)

-- 1.4 apart at most: 1.354, by Table 2 at 5 and 7.5 s, M 4.50, 0 km and 450 m/s
abbrev pub row_step : ℕ
row_step = 1_400_000_000

-- by the rows k and k + 1
abbrev pub RowsNear : Bool → ℕ → ℕ → ℕ → ℕ → ℕ → Type 0
RowsNear is_table3 k m d v mechanism =
    Near row_step (median_pair_of (row_at is_table3 k) m d v mechanism)
    (median_pair_of (row_at is_table3 (k + 1)) m d v mechanism)
