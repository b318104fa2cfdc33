-- The scaled number of a/b, from the leading zeros of the quotient.
use Rattle.std.specs.Prelude.{ℕ}
use mathlib.Core.Path.{◌≡◌}
use Prim.Native.Nat.{ℕ, suc, ◌+◌, ◌*◌, ◌-◌, ◌/◌, ◌^◌, ◌≤◌, ◌<◌}
use native.Mathlib.Nat.{mul-le-mul_right, div-mul-le_self, lt-div-mul-add, le-div_iff_mul-le, div-lt_iff_lt-mul}
use native.Mathlib.Decide.{dec_le}
use native.Mathlib.Omega.{arith}
use borrow.Author.Tests.{ne_eqb}
use lib.Count.{count_leading_zeros, leading_top}
use lib.Pow.{pow_pos, pow_mono, pow-add, shr_lt}
use Rattle.interval_theory.specs.declared.Ends.{Ends}
use Rattle.logarithm_theory.specs.declared.Scaled.{Scaled}
use Rattle.logarithm_theory.specs.Promise.{LnDomain}
use Rattle.logarithm_theory.specs.Evaluation.{Normal, scaled_of, scaled_ln_of, ln_of}

-- the powers of 2 are in the order of their exponents
pub exponent : (i j : ℕ) → 2 ^ i < 2 ^ suc j → i ≤ j
exponent i j h = elim (dec_le i j) [
  | yes t ↦ t
  | no t ↦ absurd (omega (arith, pow_mono {i = suc j} {j = i} (omega arith)))
]

-- the quotient is from 2^(35 + k) to below 2^(36 + k), with k = 28 less its leading zeros
record Aligned (x : ℕ) : Type 0 where
  few : count_leading_zeros 64 x ≤ 28
  low : 2 ^ (35 + (28 - count_leading_zeros 64 x)) ≤ x
  high : x < 2 ^ (36 + (28 - count_leading_zeros 64 x))

aligned : {a b : ℕ} → LnDomain a b → Aligned (a * 2 ^ 35 / b)
aligned {a} {b} d =
    let x : ℕ = a * 2 ^ 35 / b in
    let l : ℕ = count_leading_zeros 64 x in
    let least : 2 ^ 35 ≤ x = (le-div_iff_mul-le d.least).1 (omega arith) in
    let small : x < 2 ^ 64 = (div-lt_iff_lt-mul d.least).1 (omega arith) in
    let t = leading_top 64 x (omega arith) small in
    let top = exponent 35 t.0 (omega arith) in
    let low : 35 + (28 - l) ≡ t.0 = omega arith in
    let high : 36 + (28 - l) ≡ suc t.0 = omega arith in
    record { few = omega arith; low = rw low t.2; high = rw high t.3 }

pub quotient_zeros : {a b : ℕ} → LnDomain a b → count_leading_zeros 64 (a * 2 ^ 35 / b) ≤ 28
quotient_zeros d = (aligned d).few

-- s is a/b, rounded down
pub record Scales (a b : ℕ) (s : Scaled) : Type 0 where
  pub normal : Normal s
  pub low : b * 2 ^ s.octave * s.mantissa ≤ 2 ^ 35 * a
  pub high : 2 ^ 35 * a ≤ b * 2 ^ s.octave * suc s.mantissa

pub scales : {a b : ℕ} → LnDomain a b → Scales a b (scaled_of a b)
unfolding scaled_of
scales {a} {b} d =
    let x : ℕ = a * 2 ^ 35 / b in
    let k : ℕ = 28 - count_leading_zeros 64 x in
    let w = aligned d in
    let least : 2 ^ 35 ≤ x / 2 ^ k = (le-div_iff_mul-le (pow_pos k)).1 (rw (← pow-add 2 35 k) w.low) in
    let most : x / 2 ^ k < 2 ^ 36 = shr_lt 36 k w.high in
    let below = mul-le-mul_right b (div-mul-le_self x (2 ^ k)) in
    let above = mul-le-mul_right b (lt-div-mul-add {a = x} (pow_pos k)) in
    omega (arith, div-mul-le_self (a * 2 ^ 35) b, lt-div-mul-add {a = a * 2 ^ 35} d.least)

-- the ends of the logarithm of an unequal pair are those of the scaled quotient
pub unequal : {e : Ends ℕ} (a b : ℕ) → (a ≡ b → ⊥) → e ≡ scaled_ln_of (scaled_of a b) → e ≡ ln_of a b
unfolding ln_of
unequal a b h e = rw (ne_eqb a b h) e
