-- Signed whole numbers as differences of two natural numbers, so that `omega` decides what is linear in them.
use mathlib.Core.Path.{◌≡◌, refl, ap}
use mathlib.Core.Logic.{◌⊎◌, inl, inr}
use mathlib.Core.Bool.{not}
use Prim.Native.Nat.{ℕ, zero, suc, ◌+◌, ◌*◌, ◌<◌, ◌≤◌}
use native.Mathlib.Omega.{arith}
use lib.Dec.{T, ltb, leb→le, le→leb, ltb→lt, lt→ltb, nltb→le, nleb→lt}
use lib.IntN.{ℤ, pos, negsuc, neg_ℤ, sub_ℕ, ◌+ℤ◌, ◌*ℤ◌}
use lib.Signed.{le_z, lt_z, ◌≤ℤ◌, ◌<ℤ◌}
use Rattle.toolbox_theory.specs.Whole.{up, down}
use Rattle.toolbox_theory.proofs.Tests.{by_test}

pub le_in : (a b : ℤ) → up a + down b ≤ up b + down a → T (le_z a b)
unfolding up down
le_in (pos a) (pos b) h = le→leb a b (omega arith)
le_in (pos a) (negsuc b) h = omega arith
le_in (negsuc a) (pos b) h = tt
le_in (negsuc a) (negsuc b) h = le→leb b a (omega arith)

pub le_out : (a b : ℤ) → T (le_z a b) → up a + down b ≤ up b + down a
unfolding up down
le_out (pos a) (pos b) t = omega (arith, leb→le a b t)
le_out (pos a) (negsuc b) t = absurd t
le_out (negsuc a) (pos b) t = omega arith
le_out (negsuc a) (negsuc b) t = omega (arith, leb→le b a t)

pub gt_out : (a b : ℤ) → T (not (le_z a b)) → up b + down a < up a + down b
unfolding up down
gt_out (pos a) (pos b) t = omega (arith, nleb→lt a b t)
gt_out (pos a) (negsuc b) t = omega arith
gt_out (negsuc a) (pos b) t = absurd t
gt_out (negsuc a) (negsuc b) t = omega (arith, nleb→lt b a t)

pub lt_in : (a b : ℤ) → up a + down b < up b + down a → T (lt_z a b)
unfolding up down
lt_in (pos a) (pos b) h = lt→ltb a b (omega arith)
lt_in (pos a) (negsuc b) h = omega arith
lt_in (negsuc a) (pos b) h = tt
lt_in (negsuc a) (negsuc b) h = lt→ltb b a (omega arith)

pub lt_out : (a b : ℤ) → T (lt_z a b) → up a + down b < up b + down a
unfolding up down
lt_out (pos a) (pos b) t = omega (arith, ltb→lt a b t)
lt_out (pos a) (negsuc b) t = absurd t
lt_out (negsuc a) (pos b) t = omega arith
lt_out (negsuc a) (negsuc b) t = omega (arith, ltb→lt b a t)

-- one of the two is 0
pub one_sided : (a : ℤ) → (down a ≤ 0) ⊎ (up a ≤ 0)
unfolding up down
one_sided (pos n) = inl (omega arith)
one_sided (negsuc n) = inr (omega arith)

pub neg_is : (a : ℤ) → (up (neg_ℤ a) ≡ down a) × (down (neg_ℤ a) ≡ up a)
unfolding up down
neg_is (pos zero) = (refl, refl)
neg_is (pos (suc n)) = (refl, refl)
neg_is (negsuc n) = (refl, refl)

pub sub_is : (a b : ℕ) → up (sub_ℕ a b) + b ≡ down (sub_ℕ a b) + a
unfolding up down
sub_is a b =
    by_test (ltb a b) (λ z. up z + b ≡ down z + a) (λ t. omega (arith, ltb→lt)) (λ t. omega (arith, nltb→le))

pub add_is : (a b : ℤ) → up (a +ℤ b) + (down a + down b) ≡ down (a +ℤ b) + (up a + up b)
unfolding up down
add_is (pos a) (pos b) = omega arith
add_is (pos a) (negsuc b) = omega (arith, sub_is a (suc b))
add_is (negsuc a) (pos b) = omega (arith, sub_is b (suc a))
add_is (negsuc a) (negsuc b) = omega arith

pub mul_is : (a b : ℤ) → up (a *ℤ b) + (up a * down b + down a * up b) ≡ down (a *ℤ b) + (up a * up b + down a * down b)
unfolding up down
mul_is (pos a) (pos b) = omega arith
mul_is (pos a) (negsuc b) = omega (arith, neg_is (pos (a * suc b)))
mul_is (negsuc a) (pos b) = omega (arith, neg_is (pos (suc a * b)))
mul_is (negsuc a) (negsuc b) = omega arith

-- the same of the order's record
pub ≤ℤ_in : {a b : ℤ} → up a + down b ≤ up b + down a → a ≤ℤ b
≤ℤ_in {a} {b} h = record { le = le_in a b h }

pub ≤ℤ_trans : {a c : ℤ} (b : ℤ) → a ≤ℤ b → b ≤ℤ c → a ≤ℤ c
≤ℤ_trans {a} {c} b h k = ≤ℤ_in (omega (arith, le_out a b h.le, le_out b c k.le))

pub <ℤ_in : {a b : ℤ} → up a + down b < up b + down a → a <ℤ b
<ℤ_in {a} {b} h = record { lt = lt_in a b h }

pub ≤ℤ-<ℤ_trans : {a c : ℤ} (b : ℤ) → a ≤ℤ b → b <ℤ c → a <ℤ c
≤ℤ-<ℤ_trans {a} {c} b h k = <ℤ_in (omega (arith, le_out a b h.le, lt_out b c k.lt))

pub <ℤ-≤ℤ : {a b : ℤ} → a <ℤ b → a ≤ℤ b
<ℤ-≤ℤ {a} {b} h = ≤ℤ_in (omega (arith, lt_out a b h.lt))

pub whole_ext : (a b : ℤ) → up a + down b ≡ up b + down a → a ≡ b
unfolding up down
whole_ext (pos a) (pos b) e = ap pos (omega arith)
whole_ext (pos a) (negsuc b) e = absurd (omega arith)
whole_ext (negsuc a) (pos b) e = absurd (omega arith)
whole_ext (negsuc a) (negsuc b) e = ap negsuc (omega arith)

-- ---- differences of two natural numbers

pub sub_zero : (a : ℕ) → sub_ℕ a 0 ≡ pos a
unfolding up down
sub_zero a = whole_ext (sub_ℕ a 0) (pos a) (omega (arith, sub_is a 0))

pub zero_sub : (n : ℕ) → sub_ℕ 0 n ≡ neg_ℤ (pos n)
unfolding up down
zero_sub n = whole_ext (sub_ℕ 0 n) (neg_ℤ (pos n)) (omega (arith, sub_is 0 n, neg_is (pos n)))

-- a − b is at most w above c − d
pub narrower : (a b c d w : ℕ) → a + d ≤ c + b + w → sub_ℕ a b ≤ℤ (sub_ℕ c d +ℤ pos w)
unfolding up down
narrower a b c d w h = ≤ℤ_in (omega (arith, add_is (sub_ℕ c d) (pos w), sub_is a b, sub_is c d))

-- what is at most v above z is at most w above it
pub within_more : (y z : ℤ) (v w : ℕ) → v ≤ w → y ≤ℤ (z +ℤ pos v) → y ≤ℤ (z +ℤ pos w)
unfolding up down
within_more y z v w more h =
    ≤ℤ_in (omega (arith, le_out y (z +ℤ pos v) h.le, add_is z (pos v), add_is z (pos w)))
