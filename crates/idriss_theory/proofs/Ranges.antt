-- Where the medians lie (specs/Ranges). One row's median less another's is a sum of terms, each a difference of
-- coefficients times M, (8.5 − M)², ln(R + 10), ln V, R or F, and is greatest at an end of what it multiplies: the high
-- end where the difference is above zero, and the low end where it is below. A test adds these up, once for all
-- magnitudes, distances, velocities and codes.
use Rattle.std.specs.Prelude.{ℕ}
use mathlib.Core.Bool.{Bool, true, false, ◌&&◌}
use Prim.Native.Nat.{ℕ, ◌+◌, ◌*◌, ◌-◌, ◌≤◌, ◌<◌}
use native.Mathlib.Nat.{mul-le-mul, mul-le-mul_left, mul-le-mul_right}
use native.Mathlib.Decide.{dec_le}
use native.Mathlib.Omega.{arith}
use lib.Count.{count_leading_zeros}
use lib.Dec.{T, leb, leb→le}
use Rattle.toolbox_theory.specs.Whole.{up, down}
use Rattle.toolbox_theory.proofs.Tests.{both, each, all_below, below}
use Rattle.exact_theory.specs.Fraction.{◌over◌}
use Rattle.interval_theory.specs.declared.Ends.{Ends}
use Rattle.interval_theory.specs.declared.SignedPair.{SignedPair}
use Rattle.interval_theory.specs.Natural.{scale, multiple_of, sum_of}
use Rattle.interval_theory.specs.Bound.{Bound, Within, Reaches}
use Rattle.interval_theory.proofs.SignedBounds.{ends_reach}
use Rattle.logarithm_tables_theory.specs.Tables.{coarse_at, fine_at}
use Rattle.logarithm_theory.specs.Promise.{ln_width}
use Rattle.logarithm_theory.specs.Evaluation.{scaled_of, near_one_of, mantissa_ln_of, scaled_ln_of, ln_of}
use Rattle.logarithm_theory.specs.Bound.{ln_between}
use Rattle.logarithm_theory.proofs.Bounds.{ln_between_lem}
use Rattle.scenario_theory.specs.Rows.{row_count}
use Rattle.idriss_theory.specs.declared.Row as code
use Rattle.idriss_theory.specs.Tables.{Row, no_row}
use Rattle.idriss_theory.specs.Rows.{row_at, parts}
use Rattle.idriss_theory.specs.Promise.{MedianDomain}
use Rattle.idriss_theory.specs.Evaluation.{alpha_sum, beta_of, gains_of, losses_of, vs30_cap, distance_ln_of}
use Rattle.idriss_theory.specs.Evaluation.{vs30_ln_of}
use Rattle.idriss_theory.specs.Evaluation.{distance_term_of, site_term_of, median_pair_by, median_pair_of, median_of}
use Rattle.idriss_theory.specs.Ranges.{median_least, median_most, row_step, MedianRanges, RowsNear}
use Rattle.idriss_theory.proofs.Rows.{row_limits}
use Rattle.idriss_theory.proofs.Bounds.{F_small, BetaBounds, beta_bounds}

-- ---- where the logarithms lie

-- ln(R + 10) from ln 10 to ln 185, and ln V from ln 450 to ln 1200
abbrev far_bound : Bound
far_bound = ln_between 1_000 18_500 100 100

abbrev site_bound : Bound
site_bound = ln_between 4_500 vs30_cap 10 10

-- ---- terms

-- gain less loss, times what lies from least to most
record Term : Type 0 where
  gain : ℕ
  loss : ℕ
  least : ℕ
  most : ℕ

abbrev term : ℕ → ℕ → ℕ → ℕ → Term
term gain loss least most = record { gain = gain; loss = loss; least = least; most = most }

-- it is at most the first less the second, of which one is 0
above : Term → ℕ
above t = (t.gain - t.loss) * t.most

under : Term → ℕ
under t = (t.loss - t.gain) * t.least

-- and so is p x less q x, where p less q is at most gain less loss
term_bound : (t : Term) (p q : ℕ) {x : ℕ} → p + t.loss ≤ q + t.gain → t.least ≤ x → x ≤ t.most →
    p * x + under t ≤ q * x + above t
unfolding above under
term_bound t p q {x} few from to =
    let h : p + (t.loss - t.gain) ≤ q + (t.gain - t.loss) = omega arith in
    let least = mul-le-mul_left (t.loss - t.gain) from in
    omega (arith, mul-le-mul_right x h, mul-le-mul_left (t.gain - t.loss) to)

own_bound : (t : Term) {x : ℕ} → t.least ≤ x → x ≤ t.most → t.gain * x + under t ≤ t.loss * x + above t
own_bound t from to = term_bound t t.gain t.loss (omega arith) from to

-- of multiples of a logarithm: p's high end less q's low end, each rounded by at most a unit
ln_bound_lem : (t : Term) (p q : ℕ) {e : Ends ℕ} → p + t.loss ≤ q + t.gain →
    Within e (record { width = ln_width; least = t.least; most = t.most }) →
    scale * (multiple_of p e).high + under t ≤ scale * (multiple_of q e).low + above t + ln_width * p + 2 * scale
unfolding multiple_of
ln_bound_lem t p q few w =
    omega (arith, mul-le-mul_left p w.narrow, term_bound t p q few w.least (omega arith))

-- ---- the median by a row q less that by a row r, for magnitudes from low to high

-- no end of f is more than t above one of e
abbrev Rises : ℕ → SignedPair → SignedPair → Type 0
Rises t e f = f.gain.high + e.loss.high ≤ f.loss.low + e.gain.low + t

module _ (r q : Row) (low high : ℕ) where
  abbrev a : code.Row
  a = parts r

  abbrev b : code.Row
  b = parts q

  -- α1 + α2 M + α3 (8.5 − M)²
  abbrev first : Term
  first = term (b.0 + a.1) (a.0 + b.1) 1 1

  abbrev slope : Term
  slope = term (b.2 + a.3) (a.2 + b.3) low high

  abbrev bow : Term
  bow = term (b.4 + a.5) (a.4 + b.5) ((850 - high) * (850 - high)) ((850 - low) * (850 - low))

  -- what is taken off, r's less q's: (β1 + β2 M) ln(R + 10), with −β2 M in its factor, −ξ ln V and −γ R
  abbrev fall : Term
  fall = term b.7 a.7 low high

  abbrev far : Term
  far = term (2_000 * a.6 + 20 * above fall) (2_000 * b.6 + 20 * under fall) far_bound.least far_bound.most

  abbrev site : Term
  site = term (20_000 * a.8) (20_000 * b.8) site_bound.least site_bound.most

  abbrev anelastic : Term
  anelastic = term a.9 b.9 0 17_500

  -- φ F
  abbrev fault : Term
  fault = term b.10 a.10 0 1

  -- a sum over the terms of α, in units, and over all of them, in 1/scale of a unit
  alpha : (Term → ℕ) → ℕ
  alpha f = 100_000 * f first + 1_000 * f slope + 10 * f bow

  abbrev total : (Term → ℕ) → ℕ
  total f = scale * (alpha f + 1_000 * f anelastic + 10_000_000 * f fault) + f far + f site

  -- the test: it is at most t units. r's logarithms have their high ends, and both rows' multiples of them are rounded
  abbrev at_most : ℕ → Bool
  at_most t = leb (total above + ln_width * (40_000_000 + 20_000 * a.8) + 4 * scale) (total under + scale * t)

  module _ {m : ℕ} (from : low ≤ m) (to : m ≤ high) (β : BetaBounds a m) where
    alpha_bound :
        alpha_sum b.0 b.2 b.4 m + alpha_sum a.1 a.3 a.5 m + alpha under ≤
        alpha_sum a.0 a.2 a.4 m + alpha_sum b.1 b.3 b.5 m + alpha above
    unfolding alpha_sum alpha
    alpha_bound =
        let least : 850 - high ≤ 850 - m = omega arith in
        let most : 850 - m ≤ 850 - low = omega arith in
        let square = own_bound bow (mul-le-mul least least) (mul-le-mul most most) in
        omega (arith, own_bound first {x = 1} (omega arith) (omega arith), own_bound slope from to)

    beta_few : beta_of a m + far.loss ≤ beta_of b m + far.gain
    unfolding beta_of
    beta_few = omega (arith, own_bound fall from to)

    rises : {k d v : ℕ} (mechanism t : ℕ) → MedianDomain k m d v → T (at_most t) →
        Rises t (median_pair_of r m d v mechanism) (median_pair_of q m d v mechanism)
    unfolding median_pair_by gains_of losses_of distance_term_of site_term_of sum_of
    rises {d = d} {v} mechanism t h passed =
        let ln_r : Within (distance_ln_of d) far_bound = ln_between_lem (omega arith) in
        let ln_v : Within (vs30_ln_of v) site_bound = ln_between_lem (omega arith) in
        let f = ln_bound_lem far (beta_of a m) (beta_of b m) beta_few ln_r in
        let s = ln_bound_lem site (20_000 * a.8) (20_000 * b.8) (omega arith) ln_v in
        let g = own_bound anelastic (omega arith) h.near in
        omega (arith, leb→le, alpha_bound, own_bound fault (omega arith) (F_small mechanism))

-- ---- the tests of all rows

-- for all magnitudes: those up to 6.75 and those from there on, as over both (8.5 − M)² reaches too far
abbrev rises_at_most : ℕ → Row → Row → Bool
rises_at_most t r q = at_most r q 450 675 t && at_most r q 675 790 t

-- and both ways round
abbrev apart : ℕ → ℕ → Row → Row → Bool
apart t u r q = rises_at_most t r q && rises_at_most u q r

-- a row and the row of zeros; a row and the next
abbrev ranges : Bool → ℕ → Bool
ranges is_table3 k = apart median_least median_most (row_at is_table3 k) no_row

abbrev steps : Bool → ℕ → Bool
steps is_table3 k = apart row_step row_step (row_at is_table3 k) (row_at is_table3 (k + 1))

all_rows : (is_table3 : Bool) →
    T (all_below row_count (ranges is_table3)) × T (all_below (row_count - 1) (steps is_table3))
unfolding all_below row_at up down ◌over◌ above under alpha ln_of scaled_of scaled_ln_of mantissa_ln_of near_one_of
    coarse_at
    fine_at count_leading_zeros
all_rows true = (tt, tt)
all_rows false = (tt, tt)

-- ---- the laws

module _ (is_table3 : Bool) {k m d v : ℕ} (mechanism : ℕ) (h : MedianDomain k m d v) where
  abbrev pair : Row → SignedPair
  pair r = median_pair_of r m d v mechanism

  rises_for : (t : ℕ) (r q : Row) → BetaBounds (parts r) m → T (rises_at_most t r q) → Rises t (pair r) (pair q)
  rises_for t r q β passed =
      let p = both (at_most r q 450 675 t) _ passed in
      elim (dec_le m 675) [
        | yes l ↦ rises r q 450 675 h.magnitude_low l β mechanism t h p.0
        | no g ↦ rises r q 675 790 (omega arith) h.magnitude_high β mechanism t h p.1
      ]

  near : (t u : ℕ) (r q : Row) → BetaBounds (parts r) m → BetaBounds (parts q) m → T (apart t u r q) →
      Rises t (pair r) (pair q) × Rises u (pair q) (pair r)
  near t u r q β γ = each (rises_at_most t r q) (rises_at_most u q r) (rises_for t r q β) (rises_for u q r γ)

  beta_for : (j : ℕ) → j < row_count → BetaBounds (parts (row_at is_table3 j)) m
  beta_for j l = beta_bounds (row_limits is_table3 j l).sizes h.magnitude_low h.magnitude_high

  -- the median by the row of zeros is 0
  pub median_pair_of_ranges : MedianRanges is_table3 k m d v mechanism
  unfolding median_pair_by gains_of losses_of alpha_sum beta_of distance_term_of site_term_of multiple_of sum_of up
      down ◌over◌
  median_pair_of_ranges =
      let t = below row_count (ranges is_table3) (all_rows is_table3).0 k h.row in
      let p = near median_least median_most (row_at is_table3 k) no_row (beta_for k h.row) (omega arith) t in
      let z : beta_of (parts no_row) m ≤ 0 = omega arith in
      omega (arith, mul-le-mul_right (distance_ln_of d).low z)

  -- and so do its ends
  pub median_of_reaches : Reaches median_least median_most (median_of (row_at is_table3 k) m d v mechanism)
  unfolding median_of
  median_of_reaches = ends_reach _ median_pair_of_ranges

pub rows_near : (is_table3 : Bool) (k : ℕ) {m d v : ℕ} (mechanism : ℕ) → MedianDomain (k + 1) m d v →
    RowsNear is_table3 k m d v mechanism
rows_near is_table3 k mechanism h =
    let β = beta_for is_table3 mechanism h in
    let t = below (row_count - 1) (steps is_table3) (all_rows is_table3).1 k (omega arith) in
    let p = near is_table3 mechanism h row_step row_step _ _ (β k (omega arith)) (β (k + 1) h.row) t in
    record { above = p.0; below = p.1 }
