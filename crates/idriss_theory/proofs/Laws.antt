-- What `median_of` promises (specs/Promise).
use mathlib.Core.Bool.{Bool}
use Prim.Native.Nat.{ℕ, ◌+◌, ◌*◌, ◌-◌, ◌^◌, min}
use native.Mathlib.Omega.{arith}
use lib.IntN.{pos}
use Rattle.toolbox_theory.specs.Whole.{up, down}
use Rattle.exact_theory.specs.Fraction.{◌over◌, ◌-q◌}
use Rattle.exact_theory.specs.Formula.{ends}
use Rattle.exact_theory.proofs.FractionLaws.{Is, over-Is, add-Is, mul-Is, neg-Is, is_natural, num-Is, num_above}
use Rattle.exact_theory.proofs.FractionLaws.{num_below}
use Rattle.exact_theory.proofs.Points.{value, Sound, ln_q_is}
use Rattle.exact_theory.proofs.UnitLaws.{lies_natural, lies_stated, lies_wider, lies_sum, lies_difference}
use Rattle.interval_theory.specs.declared.SignedPair.{SignedPair}
use Rattle.interval_theory.specs.Natural.{sum_of}
use Rattle.interval_theory.specs.Bound.{SignedSized}
use Rattle.interval_theory.proofs.SignedBounds.{signed_wider, pair_of, ends_narrow, ends_small}
use Rattle.interval_theory.proofs.NaturalBounds.{fitting, exactly_within, sum_within}
use Rattle.interval_theory.proofs.NaturalValues.{multiple_held, minus_held}
use Rattle.logarithm_theory.proofs.Bounds.{ln_sized}
use Rattle.logarithm_theory.proofs.Enclosure.{AtPoints, encloses, PairAtPoints, at_ends}
use Rattle.idriss_theory.specs.declared.Row as code
use Rattle.idriss_theory.specs.Tables.{Row}
use Rattle.idriss_theory.specs.Rows.{row_at, parts, TableLimits}
use Rattle.idriss_theory.specs.Median.{alpha_part, beta_factor, F, median}
use Rattle.idriss_theory.specs.Promise.{MedianDomain, median_width, MedianEnds}
use Rattle.idriss_theory.specs.Evaluation.{alpha_sum, beta_of, gains_of, losses_of}
use Rattle.idriss_theory.specs.Evaluation.{distance_term_of, site_term_of, median_pair_by, median_pair_of, median_of}
use Rattle.idriss_theory.specs.Sizes.{exact_most, pair_most}
use Rattle.idriss_theory.proofs.Rows.{row_limits}
use Rattle.idriss_theory.proofs.Bounds.{gains_small, losses_small, beta_bounds, far_domain, site_domain}
use Rattle.idriss_theory.proofs.Bounds.{distance_sized, site_sized}

hundredths-Is : (n : ℕ) → Is (pos n over 100) n 0 100
unfolding up down
hundredths-Is n = over-Is (pos n) 100 (omega arith)

-- ---- by any row of either table

module _ (is_table3 : Bool) {k m d v : ℕ} (mechanism : ℕ) (h : MedianDomain k m d v) where
  abbrev r : Row
  r = row_at is_table3 k

  abbrev a : code.Row
  a = parts r

  l : TableLimits r
  l = row_limits is_table3 k h.row

  abbrev pair : SignedPair
  pair = median_pair_of r m d v mechanism

  pub median_pair_of_at_points : PairAtPoints (median r m d v mechanism) pair
  unfolding median Sound value alpha_part beta_factor median_pair_by gains_of losses_of alpha_sum beta_of
      distance_term_of
      site_term_of sum_of ◌-q◌ up down
  median_pair_of_at_points =
      let f = far_domain h.near in
      let s = site_domain h.slow in
      let ten = over-Is (pos 10) 1 (omega arith) in
      let far_ln = ln_q_is (is_natural (d + 1_000) (add-Is (hundredths-Is d) ten) (omega arith)) in
      let site_ln = ln_q_is (over-Is (pos (min v 12_000)) 10 (omega arith)) in
      let rest = add-Is (over-Is (pos 85) 10 (omega arith)) (neg-Is (hundredths-Is m)) in
      let i = is_natural (10 * (850 - m)) rest (omega (arith, h.magnitude_high)) in
      -- α1 + α2 M + α3 (8.5 − M)²
      let alpha =
      lies_stated (add-Is (add-Is (num-Is r.α1 l.decimals.alpha1)
      (mul-Is (num-Is r.α2 l.decimals.alpha2) (hundredths-Is m)))
      (mul-Is (num-Is r.α3 l.decimals.alpha3) (mul-Is i i)))
      (alpha_sum a.0 a.2 a.4 m) (alpha_sum a.1 a.3 a.5 m) (omega arith) in
      let order = (beta_bounds l.sizes h.magnitude_low h.magnitude_high).order in
      -- β1 + β2 M
      let beta =
      add-Is (num_above r.β1 l.decimals.beta1 l.beta1_above)
      (mul-Is (num_below r.β2 l.decimals.beta2 l.beta2_below) (hundredths-Is m)) in
      -- γ R, and φ F
      let γ = num_below r.γ l.decimals.gamma l.gamma_below in
      let anelastic = lies_stated (mul-Is γ (hundredths-Is d)) 0 (1_000 * (a.9 * d)) (omega arith) in
      let φ = num_above r.φ l.decimals.phi l.phi_above in
      let F-Is = over-Is (pos (F mechanism)) 1 (omega arith) in
      let fault = lies_stated (mul-Is φ F-Is) (10_000_000 * (a.10 * F mechanism)) 0 (omega arith) in
      record {
        sound = rw (far_ln, site_ln)
            ((((tt, (tt, (omega arith, omega arith))), (tt, (omega arith, omega arith))), tt), tt);
        held = λ σ known.
            let far =
            multiple_held (500 * beta_of a m) 10_000_000_000 (beta_of a m) (omega arith)
            (lies_natural _ _ (known.ln_within f)) (is_natural (500 * beta_of a m) beta (omega arith)) in
            let site =
            minus_held a.8 1_000 (20_000 * a.8) (omega arith) (lies_natural _ _ (known.ln_within s))
            (num_below r.ξ l.decimals.xi l.xi_below) in
            rw (far_ln, site_ln)
            (lies_wider (lies_sum (lies_sum (lies_sum (lies_difference alpha far) site) anelastic) fault)
            _ _ _ _ (omega arith) (omega arith));
      }

  pub median_pair_of_sized : SignedSized pair median_width pair_most
  unfolding median_pair_by
  median_pair_of_sized =
      let b = l.sizes in
      signed_wider (pair_of (exactly_within exact_most (gains_small b h.magnitude_high mechanism))
      (sum_within (sum_within (exactly_within exact_most (losses_small b h.magnitude_high h.near))
      (distance_sized b h.magnitude_low h.magnitude_high (ln_sized (far_domain h.near))))
      (site_sized b (ln_sized (site_domain h.slow))))) (fitting tt)

  -- at points: what the median comes to lies within the ends, wherever its logarithms lie within theirs
  pub median_of_at_points :
      let e = median_of (row_at is_table3 k) m d v mechanism in
      AtPoints (median (row_at is_table3 k) m d v mechanism) (ends e.low e.high)
  unfolding median_of
  median_of_at_points = at_ends pair median_pair_of_at_points

  -- the promise
  pub median_of_promise : MedianEnds (row_at is_table3 k) m d v mechanism
      (median_of (row_at is_table3 k) m d v mechanism)
  unfolding median_of
  median_of_promise = record {
    encloses = encloses median_of_at_points;
    narrow = ends_narrow pair median_width median_pair_of_sized (omega arith);
    small = ends_small pair (2 ^ 53) median_pair_of_sized (omega arith);
  }
