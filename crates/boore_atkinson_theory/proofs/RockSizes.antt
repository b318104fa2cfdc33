-- Sizes of what the motion on rock is made of.
use Prim.Native.Nat.{ℕ, ◌+◌, ◌*◌, ◌-◌, ◌^◌, ◌≤◌, ◌<◌}
use native.Mathlib.Nat.{le_refl, mul-le-mul, mul-le-mul_left}
use native.Mathlib.Omega.{arith}
use Rattle.interval_theory.specs.Bound.{Within, Sized, SignedSized}
use Rattle.interval_theory.specs.Natural.{multiple_of}
use Rattle.interval_theory.proofs.NaturalBounds.{multiple_within, sum_within}
use Rattle.interval_theory.proofs.Bounded.{Bounded, given, multiple, sum, at_most}
use Rattle.logarithm_theory.specs.Promise.{LnDomain}
use Rattle.logarithm_theory.proofs.Laws.{root_of_small}
use Rattle.logarithm_theory.proofs.Bounds.{ln_sized}
use Rattle.scenario_theory.specs.Rows.{row_count}
use Rattle.boore_atkinson_theory.specs.declared.EffectiveDistance.{EffectiveDistance}
use Rattle.boore_atkinson_theory.specs.declared.DistanceRow.{DistanceRow}
use Rattle.boore_atkinson_theory.specs.declared.MagnitudeRow.{MagnitudeRow}
use Rattle.boore_atkinson_theory.specs.Rows.{row_at, pga, magnitude_parts, DistanceLimits, MagnitudeLimits}
use Rattle.boore_atkinson_theory.specs.Rock.{sum_of_squares}
use Rattle.boore_atkinson_theory.specs.Evaluation.{km_of, effective_of, spread_of, fall_of, magnitude_of, rock_of}
use Rattle.boore_atkinson_theory.specs.Evaluation.{minus_p_of}
use Rattle.boore_atkinson_theory.specs.Promise.{rock_width}
use Rattle.boore_atkinson_theory.specs.Sizes.{km_most, EffectiveSized, MagnitudeBounds, Small, term_most}
use Rattle.boore_atkinson_theory.specs.Sizes.{rock_most}
use Rattle.boore_atkinson_theory.specs.Ranges.{spread_most, fall_bound}
use Rattle.boore_atkinson_theory.proofs.Rows.{distance_limits_lem}
use Rattle.boore_atkinson_theory.proofs.Magnitudes.{row_term, pga_magnitude, pga_falls}

-- ---- R

pub record Squares (d h : ℕ) : Type 0 where
  pub distance : d * d ≤ 399_960_001
  pub least : 10_000 ≤ h * h
  pub depth : h * h ≤ 160_000

pub squares : {d h : ℕ} → d ≤ 19_999 → 100 ≤ h → h ≤ 400 → Squares d h
squares near shallow deep =
    record { distance = mul-le-mul near near; least = mul-le-mul shallow shallow; depth = mul-le-mul deep deep }

pub effective_domain : {d h : ℕ} → Squares d h → LnDomain (sum_of_squares d h) 10_000
effective_domain s = omega arith

km_sized : {k : ℕ} → k < 2 ^ 32 → Sized (km_of k) 78 km_most
unfolding km_of
km_sized h = omega arith

pub effective_sized : {d h : ℕ} → Squares d h → EffectiveSized (effective_of d h)
unfolding effective_of
effective_sized s =
    record { ln = ln_sized (effective_domain s); km = km_sized (root_of_small (effective_domain s).small) }

-- ---- the distance term

pub record SpreadBounds (r : DistanceRow) (m : ℕ) : Type 0 where
  pub order : r.1 * (m - 450) ≤ 100 * r.0 + r.2 * (m - 450)
  pub most : 100 * r.0 + r.2 * (m - 450) ≤ 8_400_000

pub spread_bounds : {r : DistanceRow} {m : ℕ} → DistanceLimits r → m ≤ 800 → SpreadBounds r m
spread_bounds {r} {m} l high =
    let away : m - 450 ≤ 350 = omega arith in omega (arith, mul-le-mul_left r.1 away, mul-le-mul_left r.2 away)

module _ {r : DistanceRow} {m : ℕ} {s : EffectiveDistance} (l : DistanceLimits r) (high : m ≤ 800)
    (z : EffectiveSized s) where
  pub spread_most_lem : spread_of r m ≤ 8_400_000
  unfolding spread_of
  spread_most_lem = let b = spread_bounds l high in omega arith

  abbrev pub spreading : Bounded (multiple_of (spread_of r m) s.ln)
  spreading = multiple 8_400_000 spread_most_lem (given z.ln)

  abbrev pub anelastic : Bounded (multiple_of (200 * r.3) s.km)
  anelastic = multiple 230_200 (omega arith) (given z.km)

  pub fall_sized : Sized (fall_of r m s) 4 12_700_000_000
  unfolding fall_of
  fall_sized = at_most (sum spreading anelastic) _ tt

  -- and closer, by the row, for magnitudes from least to most
  pub fall_within : {least most : ℕ} → least ≤ m → m ≤ most → Within (fall_of r m s) (fall_bound r least most)
  unfolding fall_of spread_of
  fall_within {least} {most} from to =
      let far : m - 450 ≤ most - 450 = omega arith in
      let near : least - 450 ≤ m - 450 = omega arith in
      let few : spread_of r m ≤ spread_most r least most =
      omega (arith, mul-le-mul_left r.1 near, mul-le-mul_left r.2 far) in
      sum_within (multiple_within few z.ln) (multiple_within (le_refl (200 * r.3)) z.km)

-- ---- the magnitude term

pub magnitude_bounds : {r : MagnitudeRow} {m : ℕ} → MagnitudeLimits r → 500 ≤ m → m ≤ 800 → MagnitudeBounds r m
magnitude_bounds {r} {m} l low high =
    let under : r.11 - m ≤ 350 = omega arith in
    let above : m - r.11 ≤ 800 = omega arith in
    let s : (r.11 - m) * (r.11 - m) ≤ 122_500 = mul-le-mul under under in
    record { slope = mul-le-mul l.e5 under; square = s; bow = mul-le-mul l.e6 s; rise = mul-le-mul l.e7 above }

pub term_small : {k m : ℕ} (mechanism : ℕ) → k < row_count → 500 ≤ m → m ≤ 800 →
    Small (magnitude_of (magnitude_parts (row_at k).magnitude) m mechanism) term_most
term_small mechanism h low high = omega (arith, (row_term h _ mechanism low high).limits)

-- ---- the motion on rock

pub rock_sized : {r : DistanceRow} (q : MagnitudeRow) {m : ℕ} {s : EffectiveDistance} (mechanism : ℕ) →
    DistanceLimits r → Small (magnitude_of q m mechanism) term_most → m ≤ 800 → EffectiveSized s →
    SignedSized (rock_of r q m s mechanism) rock_width rock_most
unfolding rock_of
rock_sized q mechanism l g high z = let f = fall_sized l high z in omega (arith, f, g)

-- the rock acceleration is below 1 g: −p is above zero
pub pga_order : {r : DistanceRow} {m : ℕ} (mechanism : ℕ) (s : EffectiveDistance) → DistanceLimits r →
    m ≤ 800 → let a = rock_of r pga_magnitude m s mechanism in a.gain.low ≤ a.loss.low
unfolding rock_of
pga_order {m = m} mechanism s l high = let t = pga_falls m mechanism high in omega arith

pub minus_p_sized : {m d : ℕ} (mechanism : ℕ) → 500 ≤ m → m ≤ 800 → d ≤ 19_999 →
    Sized (minus_p_of m d mechanism) rock_width rock_most
unfolding minus_p_of
minus_p_sized {m} {d} mechanism low high near =
    let l = (distance_limits_lem 0 (omega arith)).sizes in
    let s = effective_sized (squares near l.shallow l.deep) in
    let a = rock_sized pga_magnitude mechanism l (term_small mechanism (omega arith) low high) high s in
    let o = pga_order mechanism (effective_of d pga.distance.h) l high in
    omega (arith, a, o)
