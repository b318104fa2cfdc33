-- What is left of the mantissa after both factors: p/2^61 is 1 + d/2^41, d rounded down. Its logarithm is at least
-- d − d²/2, by the midpoint value, and at most 64 units of 1/U more, by the trapezoid value and what was rounded off.
use mathlib.Core.Path.{◌≡◌, ap}
use Prim.Native.Nat.{ℕ, suc, ◌+◌, ◌*◌, ◌-◌, ◌/◌, ◌^◌, ◌≤◌}
use native.Mathlib.Nat.{mul-le-mul, mul-le-mul_right}
use native.Mathlib.Omega.{arith}
use Rattle.exact_theory.proofs.LogarithmLaws.{Bounds, bounds_wider, bounds_plus, bounds_times}
use Rattle.interval_theory.specs.Natural.{unit}
use Rattle.logarithm_tables_theory.proofs.Areas.{areas, bounds_rounded}
use Rattle.logarithm_tables_theory.proofs.Walk.{U}
use Rattle.logarithm_theory.specs.Evaluation.{NearOne, near_one_of}

-- d is below 1.25/4096
abbrev d_most : ℕ
d_most = 671_088_639

-- t is half the square of d, rounded up
pub record Halved (d t : ℕ) : Type 0 where
  pub small : d ≤ d_most
  pub square : d * d ≤ d_most * d_most
  pub below : d * d ≤ t * 2 ^ 42
  pub above : t * 2 ^ 42 ≤ d * d + 2 ^ 42
  pub less : t ≤ d

pub halved : (d : ℕ) → d ≤ d_most → Halved d ((d * d + (2 ^ 42 - 1)) / 2 ^ 42)
halved d h = omega (arith, mul-le-mul h h, mul-le-mul_right d h)

-- ---- h is d − t, and m the same in units of 1/U

module _ (h m : ℕ) {d t : ℕ} (w : Halved d t) (e : h + t ≡ d) where
  least : m * 2 ^ 29 ≤ h * unit → m * (d + 2 ^ 41 + 2 ^ 41) ≤ 2 * d * U
  least g =
      let c : h * d ≤ d * d = mul-le-mul_right d (omega arith) in
      omega (arith, mul-le-mul_right (d + 2 ^ 42) g)

  -- the trapezoid value of d is at most 65/2 above h
  most : h * unit ≤ m * 2 ^ 29 + 2 ^ 29 → d * (d + 2 ^ 41 + 2 ^ 41) * U ≤ (m + 62) * (2 * ((d + 2 ^ 41) * 2 ^ 41))
  most g =
      let product : t * d ≤ 102_401 * d = mul-le-mul_right d (omega arith) in
      let chord : d * (d + 2 ^ 42) ≤ (2 * h + 65) * (d + 2 ^ 41) = omega (arith, ap (λ z. z * d) e) in
      let f : (2 * h + 65) * unit ≤ (m + 62) * 2 ^ 30 = omega arith in
      omega (arith, mul-le-mul_right (d + 2 ^ 41) f)

-- ---- p, from 2^20 (d + 2^41) to below 2^20 (d + 1 + 2^41)

pub distance : {p : ℕ} → NearOne p → (p - 2 ^ 61) / 2 ^ 20 ≤ d_most
distance n = omega arith

pub near_one : {p : ℕ} → NearOne p → Bounds U (near_one_of p) (near_one_of p + 64) p (2 ^ 61)
unfolding near_one_of
near_one {p} n =
    let d : ℕ = (p - 2 ^ 61) / 2 ^ 20 in
    let t : ℕ = (d * d + (2 ^ 42 - 1)) / 2 ^ 42 in
    let m : ℕ = (d - t) * unit / 2 ^ 29 in
    let w = halved d (distance n) in
    let e : d - t + t ≡ d = omega arith in
    let low : 2 ^ 20 * (d + 2 ^ 41) ≤ p = omega arith in
    let high : p ≤ 2 ^ 20 * suc (d + 2 ^ 41) = omega arith in
    bounds_wider U m (m + 64) (omega arith) (omega arith) (omega arith) (omega arith)
    (bounds_plus U {v = m} {w = m + 62} {b = 2 ^ 61} (omega arith) (omega arith) low
    (bounds_rounded U 2 (2 ^ 20) (d + 2 ^ 41) p (omega arith) (omega arith) (omega arith) (omega arith) low high)
    (bounds_times (2 ^ 20) (omega arith)
    (areas U m (m + 62) d (2 ^ 41) (omega arith) (omega arith) (least (d - t) m w e (omega arith))
    (most (d - t) m w e (omega arith)))))

-- the size that the code rests on
pub near_small : {p : ℕ} → NearOne p → near_one_of p ≤ 1_250_000_000
unfolding near_one_of
near_small {p} n = omega (arith, distance n)
