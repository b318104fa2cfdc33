-- What median and sigma compute, in whole numbers of units of 10^-9. A change of the way of computing swaps these
-- definitions behind their names; callers go by the laws of proofs/Laws, and never by this text.
use Rattle.std.specs.Prelude.{cond, ℕ, ◌+◌, ◌*◌, ◌-◌, ◌/◌, min, max, eqb, leb, ltb, ℤ}
use Rattle.interval_theory.specs.declared.Ends.{Ends}
use Rattle.interval_theory.specs.declared.SignedPair.{SignedPair}
use Rattle.interval_theory.specs.Signed.{ends_of, plus_of}
use Rattle.interval_theory.specs.Natural.{exactly, multiple_of, product_of, sum_of, hull_of}
use Rattle.logarithm_theory.specs.Evaluation.{ln_of, root_of}
use Rattle.interpolation_theory.specs.declared.Step.{Step}
use Rattle.interpolation_theory.specs.Evaluation.{interpolated_of}
use Rattle.boore_atkinson_theory.specs.declared.EffectiveDistance.{EffectiveDistance}
use Rattle.boore_atkinson_theory.specs.declared.Exact.{Exact}
use Rattle.boore_atkinson_theory.specs.declared.SiteRow.{SiteRow}
use Rattle.boore_atkinson_theory.specs.declared.DistanceRow.{DistanceRow}
use Rattle.boore_atkinson_theory.specs.declared.MagnitudeRow.{MagnitudeRow}
use Rattle.boore_atkinson_theory.specs.Tables.{Total, SiteAmplification, Row, Vref, V2, V1}
use Rattle.boore_atkinson_theory.specs.Rows.{pga, site_parts, distance_parts, magnitude_parts, total_parts}
use Rattle.boore_atkinson_theory.specs.Rock.{sum_of_squares}
use Rattle.boore_atkinson_theory.specs.Constants.{minus_ln_low, minus_ln_a1, minus_ln_a2, ln_ten, over_slow, over_fast}
use Rattle.boore_atkinson_theory.specs.Constants.{c_over, d_over}

-- ---- on rock

-- R, from the k of the root's lower value: 10^9/100/131072 = 78125/1024
unfoldable pub km_of : ℕ → Ends ℕ
km_of k = record { low = k * 78_125 / 1_024; high = (k + 1) * 78_125 / 1_024 + 1 }

-- ln R² and R
unfoldable pub effective_of : ℕ → ℕ → EffectiveDistance
effective_of d h = record { ln = ln_of (sum_of_squares d h) 10_000; km = km_of (root_of (sum_of_squares d h)) }

-- −(c1 + c2 (M − Mref)), in 10^-7
unfoldable pub spread_of : DistanceRow → ℕ → ℕ
spread_of r m = 100 * r.0 + r.2 * (m - 450) - r.1 * (m - 450)

-- −(c1 + c2 (M − Mref)) ln R − c3 R
unfoldable pub fall_of : DistanceRow → ℕ → EffectiveDistance → Ends ℕ
fall_of r m s = sum_of (multiple_of (spread_of r m) s.ln) (multiple_of (200 * r.3) s.km)

-- e
unfoldable pub level_of : MagnitudeRow → ℕ → Exact
level_of r mechanism =
    cond (eqb mechanism 9) record { gain = 10_000 * r.0; loss = 10_000 * r.1 }
    (cond (eqb mechanism 0) record { gain = 10_000 * r.2; loss = 10_000 * r.3 }
    (cond (eqb mechanism 1) record { gain = 10_000 * r.4; loss = 10_000 * r.5 }
    record { gain = 10_000 * r.6; loss = 10_000 * r.7 }))

-- the magnitude term
unfoldable pub magnitude_of : MagnitudeRow → ℕ → ℕ → Exact
magnitude_of r m mechanism =
    let e : Exact = level_of r mechanism in
    cond (leb m r.11)
    record { gain = e.gain; loss = e.loss + 100 * (r.8 * (r.11 - m)) + r.9 * ((r.11 - m) * (r.11 - m)) }
    record { gain = e.gain + 100 * (r.10 * (m - r.11)); loss = e.loss }

unfoldable pub rock_of : DistanceRow → MagnitudeRow → ℕ → EffectiveDistance → ℕ → SignedPair
rock_of r q m s mechanism =
    let f : Ends ℕ = fall_of r m s in
    let g : Exact = magnitude_of q m mechanism in
    record {
      gain = exactly (g.gain + 10_000 * r.3);
      loss = record { low = g.loss + f.low; high = g.loss + f.high };
    }

-- −p
unfoldable pub minus_p_of : ℕ → ℕ → ℕ → Ends ℕ
minus_p_of m d mechanism =
    let a : SignedPair =
    rock_of (distance_parts pga.distance) (magnitude_parts pga.magnitude) m
    (effective_of d pga.distance.h) mechanism in
    record { low = a.loss.low - a.gain.low; high = a.loss.high - a.gain.low }

-- ---- the site term

-- the absolute value of ln(V/760)
unfoldable pub vs30_ln_of : ℕ → Ends ℕ
vs30_ln_of v = cond (ltb v Vref) (ln_of Vref v) (ln_of v Vref)

unfoldable pub linear_of : SiteRow → ℕ → SignedPair
linear_of s v =
    cond (ltb v Vref)
    record { gain = multiple_of (20_000 * s.0) (ln_of Vref v); loss = exactly 0 }
    record { gain = exactly 0; loss = multiple_of (20_000 * s.0) (ln_of v Vref) }

-- −bnl from 180 to 300 m/s, and from 300 to 760
unfoldable pub slow_slope_of : SiteRow → ℕ → Ends ℕ
slow_slope_of s v =
    sum_of (multiple_of (20_000 * (s.1 - 10 * s.2)) (product_of (ln_of V2 v) over_slow))
    (exactly (10_000_000 * s.2))

unfoldable pub fast_slope_of : SiteRow → ℕ → Ends ℕ
fast_slope_of s v = multiple_of (200_000 * s.2) (product_of (ln_of Vref v) over_fast)

-- −bnl
unfoldable pub slope_of : SiteRow → ℕ → Ends ℕ
slope_of s v =
    cond (leb v V1) (exactly (1_000_000 * s.1))
    (cond (leb v V2) (slow_slope_of s v) (cond (ltb v Vref) (fast_slope_of s v) (exactly 0)))

-- z = p − ln 0.03 in the middle branch, where p is above ln 0.03 and up to ln 0.09
unfoldable pub z_of : Ends ℕ → Ends ℕ
z_of b = record { low = minus_ln_a1.low - b.high; high = minus_ln_a1.high - max b.low minus_ln_a2.low }

-- c z² + d z³ over the slope
unfoldable pub cubic_of : Ends ℕ → Ends ℕ
cubic_of z =
    let square : Ends ℕ = product_of z z in
    sum_of (product_of c_over square) (product_of d_over (product_of square z))

-- p − ln 0.1 − ln(0.06/0.1) in the upper branch, where p is above ln 0.09
unfoldable pub straight_of : Ends ℕ → Ends ℕ
straight_of b = record {
  low = minus_ln_low.low + ln_ten.low - min b.high minus_ln_a2.high;
  high = minus_ln_low.high + ln_ten.high - b.low;
}

-- A where −p, which lies in b, is from t on, B where it is below t, and both where either may be
unfoldable pub branch_of : Ends ℕ → Ends ℕ → Ends ℕ → Ends ℕ → Ends ℕ
branch_of b t A B = cond (leb t.low b.high) (cond (ltb b.low t.high) (hull_of A B) A) B

-- what the nonlinear part has beside bnl ln(0.06/0.1), over the slope
unfoldable pub curve_of : Ends ℕ → Ends ℕ
curve_of b = branch_of b minus_ln_a1 (exactly 0) (branch_of b minus_ln_a2 (cubic_of (z_of b)) (straight_of b))

-- the nonlinear part by the slope and this
unfoldable pub nonlinear_by : SiteRow → ℕ → Ends ℕ → SignedPair
nonlinear_by s v q =
    let n : Ends ℕ = slope_of s v in
    record { gain = product_of n minus_ln_low; loss = product_of n q }

abbrev pub nonlinear_of : SiteRow → ℕ → Ends ℕ → SignedPair
nonlinear_of s v b = nonlinear_by s v (curve_of b)

-- what all rows have in common in it: from here on the slope is 0, and nothing depends on p
abbrev pub flat_from : ℕ
flat_from = Vref

unfoldable pub curve_for : ℕ → ℕ → ℕ → ℕ → Ends ℕ
curve_for v m d mechanism = cond (leb flat_from v) (exactly 0) (curve_of (minus_p_of m d mechanism))

-- ---- the median as a gain less a loss, and the ends

unfoldable pub median_pair_of : Row → ℕ → ℕ → ℕ → ℕ → SignedPair
median_pair_of r m d v mechanism =
    let rock : SignedPair =
    rock_of (distance_parts r.distance) (magnitude_parts r.magnitude) m
    (effective_of d r.distance.h) mechanism in
    let s : SiteRow = site_parts r.site in
    plus_of (plus_of rock (linear_of s v)) (nonlinear_of s v (minus_p_of m d mechanism))

unfoldable pub median_of : Row → ℕ → ℕ → ℕ → ℕ → Ends ℤ
median_of r m d v mechanism = ends_of (median_pair_of r m d v mechanism)

-- between two rows, by the logarithms of a step from one to the other
unfoldable pub median_between_of : Row → Row → Step → ℕ → ℕ → ℕ → ℕ → Ends ℤ
median_between_of r q s m d v mechanism =
    interpolated_of (median_pair_of r m d v mechanism) (median_pair_of q m d v mechanism) s.part s.whole

unfoldable pub nonlinear_ends_of : SiteAmplification → ℕ → Ends ℕ → Ends ℤ
nonlinear_ends_of s v b = ends_of (nonlinear_of (site_parts s) v b)

-- equal ends that are not below zero, as a gain
abbrev pub exact_pair : ℕ → SignedPair
exact_pair n = record { gain = exactly n; loss = exactly 0 }

unfoldable pub sigma_pair_of : Total → ℕ → SignedPair
sigma_pair_of t mechanism =
    exact_pair (1_000_000 * cond (eqb mechanism 9) (total_parts t).0 (total_parts t).1)

unfoldable pub sigma_of : Total → ℕ → Ends ℤ
sigma_of t mechanism = ends_of (sigma_pair_of t mechanism)

unfoldable pub sigma_between_of : Total → Total → Step → ℕ → Ends ℤ
sigma_between_of t u s mechanism =
    interpolated_of (sigma_pair_of t mechanism) (sigma_pair_of u mechanism) s.part s.whole
