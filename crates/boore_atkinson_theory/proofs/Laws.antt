-- What `median_of`, `nonlinear_ends_of` and `sigma_of` promise (specs/Promise).
use Rattle.std.specs.Prelude.{ℕ}
use mathlib.Core.Path.{refl}
use mathlib.Core.Bool.{Bool, true, false, cond}
use Prim.Native.Nat.{ℕ, ◌+◌, ◌*◌, ◌^◌, ◌≤◌, ◌<◌}
use native.Mathlib.Omega.{arith}
use lib.Dec.{eqb}
use lib.IntN.{pos, neg_ℤ}
use Rattle.toolbox_theory.proofs.Whole.{zero_sub}
use Rattle.exact_theory.specs.Fraction.{Fraction, ◌over◌}
use Rattle.exact_theory.specs.Pair.{◌∈◌}
use Rattle.exact_theory.specs.Formula.{Formula, stated, ln, ◌⊖◌, ◌⊗◌, ends}
use Rattle.exact_theory.proofs.FractionLaws.{Is, num_above}
use Rattle.exact_theory.proofs.Points.{Points, value, Sound, Positive, positive_ln, positive_product}
use Rattle.exact_theory.proofs.UnitLaws.{lies_wider, lies_stated}
use Rattle.interval_theory.specs.declared.Ends.{Ends}
use Rattle.interval_theory.specs.declared.SignedPair.{SignedPair}
use Rattle.interval_theory.specs.Signed.{between_of, ends_of}
use Rattle.interval_theory.specs.Bound.{SignedSized}
use Rattle.interval_theory.proofs.SignedBounds.{signed_wider, plus_within, ends_narrow, ends_small}
use Rattle.interval_theory.proofs.NaturalValues.{HeldBelow}
use Rattle.interval_theory.proofs.SignedValues.{plus_lies}
use Rattle.interval_theory.proofs.NaturalBounds.{fitting}
use Rattle.logarithm_theory.proofs.Enclosure.{Known, AtPoints, encloses, PairAtPoints, at_ends}
use Rattle.scenario_theory.specs.Rows.{row_count}
use Rattle.boore_atkinson_theory.specs.Tables.{SiteAmplification, Total, Row, a1, V1}
use Rattle.boore_atkinson_theory.specs.Rows.{row_at, total_at, pga}
use Rattle.boore_atkinson_theory.specs.Rows.{total_parts, TotalSigns}
use Rattle.boore_atkinson_theory.specs.Rock.{R, ln_r_over_rref, distance_term, on_rock}
use Rattle.boore_atkinson_theory.specs.SiteTerm.{linear_part, bnl, Δx, Δy, c, d, low_part, transition, high_part}
use Rattle.boore_atkinson_theory.specs.SiteTerm.{nonlinear_part}
use Rattle.boore_atkinson_theory.specs.Median.{p, median, sigma}
use Rattle.boore_atkinson_theory.specs.Promise.{MedianDomain, NonlinearDomain, median_width, nonlinear_width}
use Rattle.boore_atkinson_theory.specs.Promise.{MedianEnds, NonlinearEnds, SigmaEnds}
use Rattle.boore_atkinson_theory.specs.Evaluation.{effective_of, rock_of, minus_p_of, nonlinear_by}
use Rattle.boore_atkinson_theory.specs.Evaluation.{median_pair_of, median_of, nonlinear_ends_of, sigma_pair_of}
use Rattle.boore_atkinson_theory.specs.Evaluation.{sigma_of}
use Rattle.boore_atkinson_theory.specs.Sizes.{linear_most, nonlinear_most, rock_most}
use Rattle.boore_atkinson_theory.proofs.Rows.{site_limits_lem, distance_limits_lem, total_limits_lem}
use Rattle.boore_atkinson_theory.proofs.Rows.{pga_at}
use Rattle.boore_atkinson_theory.proofs.RockSizes.{Squares, squares, effective_domain, effective_sized}
use Rattle.boore_atkinson_theory.proofs.RockSizes.{term_small, rock_sized, pga_order, minus_p_sized}
use Rattle.boore_atkinson_theory.proofs.RockLaws.{distance_ln, rock_lies}
use Rattle.boore_atkinson_theory.proofs.SiteLaws.{in_ranges, linear_lies, slope_below}
use Rattle.boore_atkinson_theory.proofs.SiteSizes.{linear_sized, nonlinear_sized, nonlinear_narrow}
use Rattle.boore_atkinson_theory.proofs.CurveLaws.{nonlinear_lies}

-- ---- logarithms are of numbers of at least 1, and divisors above zero

rock_sound : (r : Row) (m : ℕ) {d : ℕ} (mechanism : ℕ) → Squares d r.distance.h → Sound (on_rock r m d mechanism)
unfolding Sound on_rock distance_term R ln_r_over_rref
rock_sound r m mechanism s =
    let n = effective_domain s in
    rw (distance_ln _) (((tt, (tt, omega arith)), (tt, ((tt, tt), tt))), tt)

slope_sound : (s : SiteAmplification) {v : ℕ} → V1 ≤ v → Sound (bnl s v)
unfolding Sound bnl
slope_sound s {v} slow =
    in_ranges Sound v tt (λ h. (((tt, omega arith), positive_ln (omega arith) (omega arith)), tt))
    (λ h. ((tt, omega arith), positive_ln (omega arith) (omega arith))) tt

nonlinear_sound : (slope q : Formula) → Sound slope → Sound q → Sound (nonlinear_part slope q)
unfolding Sound nonlinear_part low_part transition high_part c d Δy Δx
nonlinear_sound slope q s t =
    let low : Sound (low_part slope) = (s, omega arith) in
    let z : Sound (q ⊖ ln a1 100) = (t, omega arith) in
    let top : Sound (stated (pos 3 over 1) ⊗ Δy slope ⊖ slope ⊗ Δx) = ((tt, (s, omega arith)), (s, omega arith)) in
    let x : Positive Δx = positive_ln (omega arith) (omega arith) in
    let square = positive_product x x in
    let middle : Sound (transition slope q) =
    (low, (((top, square), (z, z)), (((tt, top), positive_product square x), ((z, z), z)))) in
    (t, omega arith, low, (t, omega arith, middle, (s, (t, omega arith))))

-- ---- the nonlinear part

-- −q lies within b
below_of : {q : Fraction} (b : Ends ℕ) → q ∈ ends (neg_ℤ (pos b.high)) (neg_ℤ (pos b.low)) → HeldBelow q b
unfolding ends
below_of b h = record { from = rw (zero_sub b.high) h.from; to = rw (zero_sub b.low) h.to }

pub nonlinear_promise : {k v : ℕ} {b : Ends ℕ} → NonlinearDomain k v b →
    NonlinearEnds (row_at k).site v b (nonlinear_ends_of (row_at k).site v b)
unfolding Sound value nonlinear_ends_of nonlinear_by
nonlinear_promise {k} {v} {b} h =
    let s = (row_at k).site in
    let l = site_limits_lem k h.row in
    record {
      encloses = λ q inside.
          encloses (at_ends _ record {
            sound = nonlinear_sound (bnl s v) (stated q) (slope_sound s h.slow) tt;
            held = λ σ known.
                let slope = slope_below s l known h.slow h.fast in
                nonlinear_lies known (bnl s v) (stated q) slope (below_of b inside);
          });
      narrow = λ w.
          let n = nonlinear_narrow {b = b} {most = b.high} l.sizes h.slow (omega arith) in
          ends_narrow _ nonlinear_width n (omega arith);
      small = ends_small _ (2 ^ 53) (nonlinear_sized b l.sizes h.slow h.order) (omega arith);
    }

-- ---- the median, by any row of the tables

module _ {k m d v : ℕ} (mechanism : ℕ) (h : MedianDomain k m d v) where
  abbrev pair : SignedPair
  pair = median_pair_of (row_at k) m d v mechanism

  -- R² by a row
  fits : (j : ℕ) → j < row_count → Squares d (row_at j).distance.h
  fits j row = let l = (distance_limits_lem j row).sizes in squares h.near l.shallow l.deep

  pub median_pair_of_sized : SignedSized pair median_width (rock_most + linear_most + nonlinear_most)
  unfolding median_pair_of
  median_pair_of_sized =
      let s = (site_limits_lem k h.row).sizes in
      let term = term_small mechanism h.row h.magnitude_low h.magnitude_high in
      let p = minus_p_sized mechanism h.magnitude_low h.magnitude_high h.near in
      signed_wider (plus_within (plus_within
      (rock_sized _ mechanism (distance_limits_lem k h.row).sizes term h.magnitude_high
      (effective_sized (fits k h.row)))
      (linear_sized s h.slow h.fast)) (nonlinear_narrow s h.slow p)) (fitting tt)

  p_held : {σ : Points} → Known σ → HeldBelow (value σ (p m d mechanism)) (minus_p_of m d mechanism)
  unfolding p minus_p_of rock_of
  p_held known =
      let l = (distance_limits_lem 0 (omega arith)).sizes in
      let o = pga_order mechanism (effective_of d pga.distance.h) l h.magnitude_high in
      let r = rock_lies 0 mechanism (omega arith) h.magnitude_low h.magnitude_high h.near known in
      rw pga_at (lies_wider r _ _ _ _ (omega arith) (omega arith))

  pub median_pair_of_at_points : PairAtPoints (median (row_at k) m d v mechanism) pair
  unfolding Sound value p median linear_part median_pair_of nonlinear_by
  median_pair_of_at_points =
      let s = site_limits_lem k h.row in
      record {
        sound = (
          (rock_sound (row_at k) m mechanism (fits k h.row), (tt, omega arith)),
          nonlinear_sound (bnl (row_at k).site v) _ (slope_sound (row_at k).site h.slow)
              (rw pga_at (rock_sound pga m mechanism (fits 0 (omega arith)))),
        );
        held = λ σ known.
            plus_lies (plus_lies
            (rock_lies k mechanism h.row h.magnitude_low h.magnitude_high h.near known)
            (linear_lies (row_at k).site s known h.slow h.fast))
            (nonlinear_lies known (bnl (row_at k).site v) (p m d mechanism)
            (slope_below (row_at k).site s known h.slow h.fast) (p_held known));
      }

  -- at points: what the median comes to lies within the ends, wherever its logarithms and its root lie within theirs
  pub median_of_at_points :
      let e = median_of (row_at k) m d v mechanism in
      AtPoints (median (row_at k) m d v mechanism) (ends e.low e.high)
  unfolding median_of
  median_of_at_points = at_ends pair median_pair_of_at_points

  -- the promise
  pub median_of_promise : MedianEnds (row_at k) m d v mechanism (median_of (row_at k) m d v mechanism)
  unfolding median_of
  median_of_promise = record {
    encloses = encloses median_of_at_points;
    narrow = ends_narrow pair median_width median_pair_of_sized (omega arith);
    small = ends_small pair (2 ^ 53) median_pair_of_sized (omega arith);
  }

-- ---- sigma

module _ (k mechanism : ℕ) (h : k < row_count) where
  -- the total, in 10^-3
  abbrev own : ℕ
  own = cond (eqb mechanism 9) (total_parts (total_at k)).0 (total_parts (total_at k)).1

  total-Is : Is (cond (eqb mechanism 9) (total_at k).σTU (total_at k).σTM) own 0 1_000 × (own ≤ 1_000)
  total-Is = go (total_at k) (total_limits_lem k h) (eqb mechanism 9)
    where
      go : (t : Total) → TotalSigns t → (b : Bool) →
          let total : ℕ = cond b (total_parts t).0 (total_parts t).1 in
          Is (cond b t.σTU t.σTM) total 0 1_000 × (total ≤ 1_000)
      go t l true = (num_above t.σTU l.unspecified_decimals l.unspecified_above, l.unspecified)
      go t l false = (num_above t.σTM l.specified_decimals l.specified_above, l.specified)

  abbrev own_sigma : SignedPair
  own_sigma = sigma_pair_of (total_at k) mechanism

  pub sigma_pair_of_at_points : PairAtPoints (sigma (total_at k) mechanism) own_sigma
  unfolding sigma sigma_pair_of Sound value
  sigma_pair_of_at_points =
      let lies = lies_stated total-Is.0 (1_000_000 * own) 0 (omega arith) in
      record { sound = tt; held = λ σ known. lies_wider lies _ _ _ _ (omega arith) (omega arith) }

  pub sigma_pair_of_sized : SignedSized own_sigma 0 1_000_000_000
  unfolding sigma_pair_of
  sigma_pair_of_sized = omega (arith, total-Is.1)

  -- at points, as of the median
  pub sigma_of_at_points :
      let e = sigma_of (total_at k) mechanism in
      AtPoints (sigma (total_at k) mechanism) (ends e.low e.high)
  unfolding sigma_of
  sigma_of_at_points = at_ends own_sigma sigma_pair_of_at_points

  -- the promise of sigma, by any row of the table
  pub sigma_of_promise : SigmaEnds (total_at k) mechanism (sigma_of (total_at k) mechanism)
  unfolding sigma_of sigma_pair_of ends_of between_of
  sigma_of_promise = record {
    encloses = encloses sigma_of_at_points;
    equal = refl;
    small = ends_small own_sigma (2 ^ 53) sigma_pair_of_sized (omega arith);
  }
