-- Where the medians by any row lie, and how far those by two rows are apart, in units of 10^-9; and what each row's
-- parts add up to, which proofs/Ranges shows it by.
use Rattle.std.specs.Prelude.{List, [], ◌∷◌, ℕ, ◌+◌, ◌*◌, ◌-◌}
use Rattle.interval_theory.specs.Bound.{Bound, size, multiple_bound, sum_bound, Ranges, Near}
use Rattle.logarithm_theory.specs.Promise.{ln_width}
use Rattle.logarithm_theory.specs.Bound.{ln_most}
use Rattle.boore_atkinson_theory.specs.declared.Exact.{Exact}
use Rattle.boore_atkinson_theory.specs.declared.SiteRow.{SiteRow}
use Rattle.boore_atkinson_theory.specs.declared.DistanceRow.{DistanceRow}
use Rattle.boore_atkinson_theory.specs.Tables.{Row}
use Rattle.boore_atkinson_theory.specs.Rows.{row_at, site_parts, distance_parts}
use Rattle.boore_atkinson_theory.specs.Evaluation.{median_pair_of}
use Rattle.boore_atkinson_theory.specs.Sizes.{km_most, vs30_most, nonlinear_most, nonlinear_gain, term_most}

-- from −18 to 2: from −11.50, at 10 s, M 5.00, 199.99 km, 1300 m/s and code 1, to 0.44, at 0.3 s, M 8.00, 0 km, 300 m/s
-- and code 2; each part is taken where it is least or greatest, whatever the others are there
abbrev pub median_least : ℕ
median_least = 18_000_000_000

abbrev pub median_most : ℕ
median_most = 2_000_000_000

-- by row k
abbrev pub MedianRanges : ℕ → ℕ → ℕ → ℕ → ℕ → Type 0
MedianRanges k m d v mechanism = Ranges median_least median_most (median_pair_of (row_at k) m d v mechanism)

-- 20 apart at most, as both lie there: neighbours are 1.54 apart, at 7.5 and 10 s, M 5.00, 0 km, 300 m/s and code 0
abbrev pub row_step : ℕ
row_step = median_least + median_most

-- by the rows j and k
abbrev pub RowsNear : ℕ → ℕ → ℕ → ℕ → ℕ → ℕ → Type 0
RowsNear j k m d v mechanism =
    Near row_step (median_pair_of (row_at j) m d v mechanism) (median_pair_of (row_at k) m d v mechanism)

-- ---- the parts of a row

-- the loss of the distance term, for magnitudes from low to high, and the linear part
abbrev pub spread_most : DistanceRow → ℕ → ℕ → ℕ
spread_most r low high = 100 * r.0 + r.2 * (high - 450) - r.1 * (low - 450)

abbrev pub fall_bound : DistanceRow → ℕ → ℕ → Bound
fall_bound r low high =
    sum_bound (multiple_bound (spread_most r low high) (size ln_width ln_most))
    (multiple_bound (200 * r.3) (size 78 km_most))

abbrev pub linear_bound : SiteRow → Bound
linear_bound s = multiple_bound (20_000 * s.0) (size ln_width vs30_most)

-- what they and the nonlinear part add to the magnitude term at most, and take from it at most
abbrev pub added : Row → ℕ
added r = 10_000 * (distance_parts r.distance).3 + (linear_bound (site_parts r.site)).most + nonlinear_gain

abbrev pub taken : Row → ℕ → ℕ → ℕ
taken r low high =
    (fall_bound (distance_parts r.distance) low high).most + (linear_bound (site_parts r.site)).most + nonlinear_most

-- what is tested of the magnitude terms e at low and f at high, by a row: each limit as two numbers in order
abbrev pub term_limits : Row → ℕ → ℕ → Exact → Exact → List (ℕ × ℕ)
term_limits r low high e f =
    (f.gain, term_most) ∷ (e.loss, term_most) ∷
    (f.gain + added r, f.loss + median_most) ∷ (e.loss + taken r low high, e.gain + median_least) ∷ []
