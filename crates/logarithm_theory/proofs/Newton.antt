-- Newton's steps to the whole root: a step from any number stays at the root or above, and falls from above it.
use mathlib.Core.Path.{◌≡◌}
use Prim.Native.Nat.{ℕ, suc, ◌+◌, ◌*◌, ◌-◌, ◌/◌, ◌%◌, ◌^◌, ◌≤◌, ◌<◌}
use native.Mathlib.Nat.{div-lt_iff_lt-mul, mul-le-mul, lt-div-mul-add, lt_of_mul-lt-mul_right}
use native.Mathlib.Omega.{arith}
use lib.Count.{count_leading_zeros, leading_length}
use lib.Pow.{shr_lt, pow_mono, pow_pos}
use Rattle.logarithm_tables_theory.proofs.Areas.{square}
use Rattle.logarithm_theory.proofs.Octave.{exponent}

-- half of s + n/s, rounded down
step_keeps : (n s : ℕ) → 1 ≤ s → n < suc ((s + n / s) / 2) * suc ((s + n / s) / 2)
step_keeps n s h =
    let e : s + suc (n / s) ≤ 2 * suc ((s + n / s) / 2) = omega arith in
    omega (arith, lt-div-mul-add {a = n} h, square s (suc (n / s)), mul-le-mul e e)

-- a step from s, whose square is above n
module _ (n s : ℕ) (h : n < s * s) where
  pub from_some : 1 ≤ s
  from_some = lt_of_mul-lt-mul_right s {m = 0} {n = s} (omega arith)

  pub quotient_less : n / s < s
  quotient_less = (div-lt_iff_lt-mul from_some).1 h

  pub falls : (s + n / s) / 2 < s
  falls = omega (arith, quotient_less)

  pub still_above : n < suc ((s + n / s) / 2) * suc ((s + n / s) / 2)
  still_above = step_keeps n s from_some

pub square_fits : (s : ℕ) → s < 2 ^ 32 → s * s < 2 ^ 64
square_fits s h = let k : s ≤ 2 ^ 32 - 1 = omega arith in omega (arith, mul-le-mul k k)

-- ---- the first estimate, a step from 2^half

pub record First (n half : ℕ) : Type 0 where
  pub few : half ≤ 31
  pub power : 2 ^ half ≤ 2 ^ 31
  pub shifted : (1 * 2 ^ half) % 2 ^ 64 ≡ 2 ^ half
  pub quotient : n / 2 ^ half < 2 ^ 32
  pub above : n < suc ((2 ^ half + n / 2 ^ half) / 2) * suc ((2 ^ half + n / 2 ^ half) / 2)

pub first : (n : ℕ) → n < 2 ^ 63 → First n ((64 - count_leading_zeros 64 n) / 2)
first n h =
    let k : ℕ = (64 - count_leading_zeros 64 n) / 2 in
    let t = leading_length 64 n (omega arith) in
    let top = exponent t.0 63 (omega arith) in
    let power : 2 ^ k ≤ 2 ^ 31 = pow_mono {i = k} {j = 31} (omega arith) in
    let below : n < 2 ^ (32 + k) = omega (arith, pow_mono {i = t.0} {j = 32 + k} (omega arith)) in
    omega (arith, shr_lt 32 k below, step_keeps n (2 ^ k) (pow_pos k))
