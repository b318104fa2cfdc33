-- Sizes of what the site term is made of.
use Rattle.std.specs.Prelude.{ℕ}
use mathlib.Core.Path.{◌≡◌, refl}
use mathlib.Core.Bool.{Bool, true, false, cond}
use Prim.Native.Nat.{ℕ, ◌*◌, ◌-◌, ◌≤◌, ◌<◌}
use native.Mathlib.Decide.{dec_le}
use native.Mathlib.Nat.{le_refl}
use native.Mathlib.Omega.{arith}
use borrow.Author.Tests.{leb-true, leb-false, ltb-true, ltb-false, lt-ltb, le-ltb}
use lib.Dec.{T, leb, ltb}
use Rattle.interval_theory.specs.declared.Ends.{Ends}
use Rattle.interval_theory.specs.Bound.{SignedWithin, size, Sized, sum_bound, ◌fits◌, SignedSized}
use Rattle.interval_theory.specs.Natural.{multiple_of, product_of, hull_of, exactly}
use Rattle.interval_theory.proofs.NaturalBounds.{wider, fitting, multiple_within}
use Rattle.interval_theory.proofs.Bounded.{Bounded, given, pair, equal, multiple, product, sum, hull, at_most}
use Rattle.interval_theory.proofs.SignedBounds.{signed_wider, pair_of}
use Rattle.logarithm_theory.specs.Promise.{ln_width}
use Rattle.logarithm_theory.specs.Evaluation.{ln_of}
use Rattle.logarithm_theory.proofs.Bounds.{logarithm, ln_between_lem}
use Rattle.boore_atkinson_theory.specs.declared.SiteRow.{SiteRow}
use Rattle.boore_atkinson_theory.specs.Rows.{SiteLimits}
use Rattle.boore_atkinson_theory.specs.Constants.{minus_ln_low, minus_ln_a1, minus_ln_a2, over_slow, over_fast, c_over}
use Rattle.boore_atkinson_theory.specs.Constants.{d_over}
use Rattle.boore_atkinson_theory.specs.Tables.{Vref, V2, V1}
use Rattle.boore_atkinson_theory.specs.Evaluation.{vs30_ln_of, linear_of, slow_slope_of, fast_slope_of, slope_of, z_of}
use Rattle.boore_atkinson_theory.specs.Evaluation.{cubic_of, straight_of, branch_of, curve_of, nonlinear_by}
use Rattle.boore_atkinson_theory.specs.Evaluation.{nonlinear_of}
use Rattle.boore_atkinson_theory.specs.Sizes.{vs30_most, linear_most, curve_most, nonlinear_most, nonlinear_gain}
use Rattle.boore_atkinson_theory.specs.Ranges.{linear_bound}
use Rattle.boore_atkinson_theory.proofs.Constants.{slow_limits, fast_limits}
use Rattle.boore_atkinson_theory.specs.Promise.{rock_width, nonlinear_width}
use Rattle.boore_atkinson_theory.proofs.SiteLaws.{in_ranges}

-- ---- the linear part

below_760 : {v : ℕ} → V1 ≤ v → v < Vref → Sized (ln_of Vref v) ln_width vs30_most
below_760 slow h = wider (ln_between_lem (omega arith)) (fitting slow_limits)

from_760 : {v : ℕ} → Vref ≤ v → v ≤ 13_000 → Sized (ln_of v Vref) ln_width vs30_most
from_760 h fast = wider (ln_between_lem (omega arith)) (fitting fast_limits)

pub vs30_sized : {v : ℕ} → V1 ≤ v → v ≤ 13_000 → Sized (vs30_ln_of v) ln_width vs30_most
unfolding vs30_ln_of
vs30_sized {v = v} slow fast = elim (dec_le Vref v) [
  | yes h ↦ rw (le-ltb v Vref h) (from_760 h fast)
  | no h ↦ rw (lt-ltb v Vref (omega arith)) (below_760 slow (omega arith))
]

-- with its bound, by whatever name
abbrev pub vs30_ln : {v : ℕ} {e : Ends ℕ} → e ≡ vs30_ln_of v → V1 ≤ v → v ≤ 13_000 → Bounded e
vs30_ln same slow fast = given {β = size ln_width vs30_most} (rw same (vs30_sized slow fast))

module _ {s : SiteRow} (l : SiteLimits s) {v : ℕ} (slow : V1 ≤ v) where
  -- by the row's own blin
  pub linear_within : v ≤ 13_000 → SignedWithin (linear_of s v) (linear_bound s)
  unfolding linear_of
  linear_within fast = elim (dec_le Vref v) [
    | yes h ↦ rw (le-ltb v Vref h) (omega (arith, multiple_within (le_refl (20_000 * s.0)) (from_760 h fast)))
    | no h ↦
        let below = below_760 slow (omega arith) in
        rw (lt-ltb v Vref (omega arith)) (omega (arith, multiple_within (le_refl (20_000 * s.0)) below))
  ]

  pub linear_sized : v ≤ 13_000 → SignedSized (linear_of s v) 3 linear_most
  linear_sized fast = signed_wider (linear_within fast) (omega arith)

  -- ---- the slope

  abbrev pub slow_ln : v ≤ V2 → Bounded (ln_of V2 v)
  slow_ln h = logarithm V2 V1 (omega arith) (omega arith) slow (omega arith)

  abbrev pub slow_ratio : v ≤ V2 → Bounded (product_of (ln_of V2 v) over_slow)
  slow_ratio h = product (slow_ln h) (pair over_slow tt)

  abbrev pub slow_term : v ≤ V2 → Bounded (multiple_of (20_000 * (s.1 - 10 * s.2)) (product_of (ln_of V2 v) over_slow))
  slow_term h = multiple 10_600_000 (omega arith) (slow_ratio h)

  abbrev pub level : Bounded (exactly (10_000_000 * s.2))
  level = equal 190_000_000 (omega arith)

  pub slow_sized : v ≤ V2 → Sized (slow_slope_of s v) 6 900_000_000
  unfolding slow_slope_of
  slow_sized h = at_most (sum (slow_term h) level) _ tt

  pub fast_sized : v < Vref → Sized (fast_slope_of s v) 6 900_000_000
  unfolding fast_slope_of
  fast_sized h = at_most (multiple 3_800_000 (omega arith)
      (product (given (below_760 slow h)) (pair over_fast tt))) _ tt

  pub slope_sized : Sized (slope_of s v) 6 900_000_000
  unfolding slope_of
  slope_sized = in_ranges (λ e. Sized e 6 900_000_000) v (omega arith) slow_sized fast_sized (omega arith)

-- ---- c z² + d z³ over the slope

module _ {z : Ends ℕ} (p : Bounded z) where
  abbrev pub square : Bounded (product_of z z)
  square = product p p

  abbrev pub cube : Bounded (product_of (product_of z z) z)
  cube = product square p

  abbrev pub first : Bounded (product_of c_over (product_of z z))
  first = product (pair c_over tt) square

  abbrev pub second : Bounded (product_of d_over (product_of (product_of z z) z))
  second = product (pair d_over tt) cube

  abbrev pub cubic : Bounded (cubic_of z)
  unfolding cubic_of
  cubic = sum first second

-- wherever z is
pub cubic_sized : {z : Ends ℕ} → Sized z 1_098_612_290 1_098_612_290 → Sized (cubic_of z) curve_most curve_most
unfolding cubic_of
cubic_sized s = at_most (cubic (given s)) _ tt

-- ---- the branches

-- what holds of A where b is from t on, of B where it is below t, and of their span where it reaches both
branch_cases : (Q : Ends ℕ → Type 0) (b t A B : Ends ℕ) → (t.low ≤ b.high → t.high ≤ b.low → Q A) →
    (b.high < t.low → Q B) → (t.low ≤ b.high → b.low < t.high → Q (hull_of A B)) → Q (branch_of b t A B)
unfolding branch_of
branch_cases Q b t A B from below both = go (leb t.low b.high) (ltb b.low t.high) refl refl
  where
    go : (i j : Bool) → leb t.low b.high ≡ i → ltb b.low t.high ≡ j → Q (cond i (cond j (hull_of A B) A) B)
    go true true ei ej = both (leb-true t.low b.high ei) (ltb-true b.low t.high ej)
    go true false ei ej = from (leb-true t.low b.high ei) (ltb-false b.low t.high ej)
    go false j ei ej = below (leb-false t.low b.high ei)

-- no bound on p's pair
module _ {b : Ends ℕ} (order : b.low ≤ b.high) where
  pub z_sized : b.low < minus_ln_a1.high → minus_ln_a2.low ≤ b.high → Sized (z_of b) 1_098_612_290 1_098_612_290
  unfolding z_of
  z_sized h k = omega arith

  pub straight_sized : b.low < minus_ln_a2.high → Sized (straight_of b) curve_most curve_most
  unfolding straight_of
  straight_sized h = omega arith

  pub upper_sized : b.low < minus_ln_a1.high →
      Sized (branch_of b minus_ln_a2 (cubic_of (z_of b)) (straight_of b)) curve_most curve_most
  upper_sized h =
      branch_cases (λ e. Sized e curve_most curve_most) _ _ _ _
      (λ p q. cubic_sized (z_sized h p)) (λ p. straight_sized (omega arith))
      (λ p q. at_most (hull (given (cubic_sized (z_sized h p))) (given (straight_sized q))) _ tt)

  pub curve_sized : Sized (curve_of b) curve_most curve_most
  unfolding curve_of
  curve_sized =
      branch_cases (λ e. Sized e curve_most curve_most) _ _ _ _
      (λ p q. omega arith) (λ p. upper_sized (omega arith))
      (λ p q. at_most (hull (equal 0 (omega arith)) (given (upper_sized q))) _ tt)

-- ---- p's pair at most 4 units wide

module _ {b : Ends ℕ} {most : ℕ} (n : Sized b rock_width most) where
  -- at ln 0.09, where the two branches meet
  meeting : minus_ln_a2.low ≤ b.high → b.low < minus_ln_a2.high →
      Sized (hull_of (cubic_of (z_of b)) (straight_of b)) 21 curve_most
  unfolding cubic_of z_of straight_of
  meeting h k =
      at_most (hull
      (cubic (given {β = record { width = 5; least = 1_098_612_285; most = 1_098_612_290 }} (omega arith)))
      (given {β = record { width = 7; least = 405_465_099; most = 405_465_120 }} (omega arith))) _ tt

  upper_narrow : b.low < minus_ln_a1.high →
      Sized (branch_of b minus_ln_a2 (cubic_of (z_of b)) (straight_of b)) 21 curve_most
  unfolding cubic_of z_of straight_of
  upper_narrow h =
      branch_cases (λ e. Sized e 21 curve_most) _ _ _ _
      (λ p q. at_most (cubic (given {β = size 5 1_098_612_290} (omega arith))) _ tt) (λ p. omega arith) meeting

  -- at ln 0.03, where only the first and the middle branch are near
  start : minus_ln_a1.low ≤ b.high → b.low < minus_ln_a1.high →
      Sized (hull_of (exactly 0) (branch_of b minus_ln_a2 (cubic_of (z_of b)) (straight_of b))) 21 curve_most
  unfolding cubic_of z_of
  start h k =
      branch_cases (λ e. Sized (hull_of (exactly 0) e) 21 curve_most) _ _ _ _
      (λ p q. at_most (hull (equal 0 (omega arith)) (cubic (given {β = size 5 5} (omega arith)))) _ tt)
      (λ p. absurd (omega arith)) (λ p q. absurd (omega arith))

  pub curve_narrow : Sized (curve_of b) 21 curve_most
  unfolding curve_of
  curve_narrow =
      branch_cases (λ e. Sized e 21 curve_most) _ _ _ _ (λ p q. omega arith) (λ p. upper_narrow (omega arith)) start

-- ---- the nonlinear part

module _ {s : SiteRow} {v : ℕ} (l : SiteLimits s) (slow : V1 ≤ v) where
  abbrev slope : Bounded (slope_of s v)
  slope = given (slope_sized l slow)

  abbrev gain : Bounded (product_of (slope_of s v) minus_ln_low)
  gain = product slope (pair minus_ln_low tt)

  pub nonlinear_gain_lem : (b : Ends ℕ) → (nonlinear_of s v b).gain.high ≤ nonlinear_gain
  unfolding nonlinear_by
  nonlinear_gain_lem b = (at_most gain (size 6 nonlinear_gain) tt).most

  -- the slope times a curve that is at most w wide
  by_curve : {q : Ends ℕ} (w k : ℕ) (c : Sized q w curve_most) →
      T (sum_bound gain.bound (product slope (given c)).bound fits size k nonlinear_most) →
      SignedSized (nonlinear_by s v q) k nonlinear_most
  unfolding nonlinear_by
  by_curve w k c t = signed_wider (pair_of gain.within (product slope (given c)).within) (fitting t)

  pub nonlinear_by_sized : {q : Ends ℕ} → Sized q curve_most curve_most →
      SignedSized (nonlinear_by s v q) nonlinear_most nonlinear_most
  nonlinear_by_sized c = by_curve curve_most nonlinear_most c tt

pub nonlinear_sized : {s : SiteRow} {v : ℕ} (b : Ends ℕ) → SiteLimits s → V1 ≤ v → b.low ≤ b.high →
    SignedSized (nonlinear_of s v b) nonlinear_most nonlinear_most
nonlinear_sized b l slow order = nonlinear_by_sized l slow (curve_sized order)

pub nonlinear_narrow : {s : SiteRow} {v : ℕ} {b : Ends ℕ} {most : ℕ} → SiteLimits s → V1 ≤ v → Sized b rock_width most →
    SignedSized (nonlinear_of s v b) nonlinear_width nonlinear_most
nonlinear_narrow {b = b} l slow n = by_curve l slow 21 nonlinear_width (curve_narrow n) tt
