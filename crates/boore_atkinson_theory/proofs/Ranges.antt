-- The ends of the median lie within specs/Ranges, by any row.
use Prim.Native.Nat.{ℕ}
use native.Mathlib.Omega.{arith}
use Rattle.interval_theory.specs.Natural.{sum_of}
use Rattle.interval_theory.specs.Signed.{plus_of}
use Rattle.interval_theory.specs.Bound.{Reaches}
use Rattle.interval_theory.proofs.SignedBounds.{ranges_near, ends_reach}
use Rattle.boore_atkinson_theory.specs.Promise.{MedianDomain}
use Rattle.boore_atkinson_theory.specs.Evaluation.{rock_of, minus_p_of, median_pair_of, median_of}
use Rattle.boore_atkinson_theory.specs.Rows.{row_at}
use Rattle.boore_atkinson_theory.specs.Ranges.{median_least, median_most, MedianRanges, RowsNear}
use Rattle.boore_atkinson_theory.proofs.Rows.{site_limits_lem, distance_limits_lem}
use Rattle.boore_atkinson_theory.proofs.Magnitudes.{row_term}
use Rattle.boore_atkinson_theory.proofs.RockSizes.{squares, effective_sized, fall_within, minus_p_sized}
use Rattle.boore_atkinson_theory.proofs.SiteSizes.{linear_within, nonlinear_gain_lem, nonlinear_sized}

module _ {m d v : ℕ} (mechanism : ℕ) where
  pub median_pair_of_ranges : {k : ℕ} → MedianDomain k m d v → MedianRanges k m d v mechanism
  unfolding median_pair_of rock_of plus_of sum_of
  median_pair_of_ranges {k} h =
      let t = row_term h.row m mechanism h.magnitude_low h.magnitude_high in
      let q = (distance_limits_lem k h.row).sizes in
      let e = effective_sized (squares h.near q.shallow q.deep) in
      let f = fall_within q h.magnitude_high e t.from t.to in
      let s = (site_limits_lem k h.row).sizes in
      let l = linear_within s h.slow h.fast in
      let p = minus_p_sized mechanism h.magnitude_low h.magnitude_high h.near in
      let n = nonlinear_sized (minus_p_of m d mechanism) s h.slow p.order in
      let g = nonlinear_gain_lem s h.slow (minus_p_of m d mechanism) in
      omega arith

  -- and so do its ends
  pub median_of_reaches : {k : ℕ} → MedianDomain k m d v →
      Reaches median_least median_most (median_of (row_at k) m d v mechanism)
  unfolding median_of
  median_of_reaches h = ends_reach _ (median_pair_of_ranges h)

  -- so no two rows' medians are far apart
  pub rows_near : {j k : ℕ} → MedianDomain j m d v → MedianDomain k m d v → RowsNear j k m d v mechanism
  rows_near g h = ranges_near (median_pair_of_ranges g) (median_pair_of_ranges h)
