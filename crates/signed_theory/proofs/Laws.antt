-- What ties a signed number of the code to ℕ: a difference of two natural numbers, cast and stored.
use mathlib.Core.Path.{◌≡◌, refl, ap}
use mathlib.Core.Bool.{Bool}
use Prim.Native.Nat.{ℕ, zero, suc, ◌+◌, ◌-◌, ◌^◌, ◌<◌, ◌≤◌}
use native.Mathlib.Decide.{dec_lt}
use native.Mathlib.Omega.{arith}
use borrow.Author.Tests.{lt-ltb, le-ltb}
use lib.IntN.{ℤ, pos, negsuc, nat_abs, ◌-ℤ◌, sub_ℕ}
use lib.Signed.{le_z}
use mir.Syntax.{w64}
use mir.Val.{to_z, of_z, SFits}
use mir.ValLaws.{to_z_pos, to_z-of_z}

-- a u64 below 2 ^ 63, cast to i64
pub cast : (n : ℕ) → n < 2 ^ 63 → to_z w64 n ≡ pos n
cast n h = to_z_pos w64 n h

-- a number below 2 ^ 63 in absolute value is an i64
pub is_i64 : (z : ℤ) → nat_abs z < 2 ^ 63 → SFits w64 z
is_i64 (pos n) h = record { sfits = h }
is_i64 (negsuc n) h = record { sfits = omega arith }

-- and is read back from its bits
pub back : (z : ℤ) → nat_abs z < 2 ^ 63 → to_z w64 (of_z w64 z) ≡ z
back z h = to_z-of_z w64 z (is_i64 z h)

pub less : (a b : ℕ) → a < b → sub_ℕ a b ≡ negsuc (b - suc a)
less a b h = simp (lt-ltb a b h)

pub more : (a b : ℕ) → b ≤ a → sub_ℕ a b ≡ pos (a - b)
more a b h = simp (le-ltb a b h)

-- a difference is not greater in absolute value than what both numbers are below
pub difference_small : (a b n : ℕ) → a < b + n → b < a + n → nat_abs (sub_ℕ a b) < n
difference_small a b n ha hb = elim (dec_lt a b) [
  | yes h ↦ rw (less a b h) (omega arith)
  | no h ↦ rw (more a b (omega arith)) (omega arith)
]

-- a − b, as a difference of two signed numbers
taken : (a b : ℕ) → pos a -ℤ pos b ≡ sub_ℕ a b
taken a zero = rw (more a zero (omega arith)) (ap pos (omega arith))
taken a (suc b) = refl

-- a difference whose absolute value is below 2 ^ 63, stored and read back
pub stored : {z : ℤ} (a b : ℕ) → a < b + 2 ^ 63 → b < a + 2 ^ 63 → z ≡ sub_ℕ a b → to_z w64 (of_z w64 z) ≡ sub_ℕ a b
stored a b ha hb e = rw e (back (sub_ℕ a b) (difference_small a b (2 ^ 63) ha hb))

-- a − b, of two numbers below 2 ^ 63 that are cast to i64, stored and read back
pub subtracted : (a b : ℕ) → a < 2 ^ 63 → b < 2 ^ 63 → to_z w64 (of_z w64 (to_z w64 a -ℤ to_z w64 b)) ≡ sub_ℕ a b
subtracted a b ha hb =
    rw (cast a ha, cast b hb) (stored a b (omega arith) (omega arith) (taken a b))

-- two numbers that a test compared
pub compared : {a b : ℤ} {c : Bool} → SFits w64 a → SFits w64 b →
    le_z (to_z w64 (of_z w64 a)) (to_z w64 (of_z w64 b)) ≡ c → le_z a b ≡ c
compared {a} {b} fa fb t = rw (to_z-of_z w64 a fa, to_z-of_z w64 b fb) at t
