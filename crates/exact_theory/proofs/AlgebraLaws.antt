-- Sums and products of fractions in another order: equal by cross products.
use mathlib.Core.Path.{◌≡◌}
use Prim.Native.Nat.{ℕ, ◌+◌, ◌*◌, ◌≤◌}
use native.Mathlib.Nat.{mul-le-mul_right}
use native.Mathlib.Omega.{arith}
use Rattle.exact_theory.specs.Fraction.{Fraction, ◌≤q◌, ◌≈q◌, zero_q, ◌+q◌, neg_q, ◌-q◌, ◌*q◌}
use Rattle.exact_theory.proofs.FractionLaws.{Is, is_self, zero-Is, le_of, le_as, add-Is, mul-Is, neg-Is, ≤q_refl}
use Rattle.exact_theory.proofs.FractionLaws.{≤q_trans, ≤q_antisym, ≈q-≤q, ≈q_≥q, ≈q_sym, add_mono, neg_anti}
use Rattle.exact_theory.proofs.FractionLaws.{eq_of}
use Rattle.toolbox_theory.specs.Whole.{up, down}

-- (u − v)/d and (s − t)/e are equal, as each is at most the other
pub same : {x y : Fraction} {u v d s t e : ℕ} → Is x u v d → Is y s t e → u * e + t * d ≤ s * d + v * e →
    s * d + v * e ≤ u * e + t * d → x ≈q y
same i j h k = eq_of i j (omega arith)

pub ≈q_refl : (x : Fraction) → x ≈q x
≈q_refl x = ≤q_antisym (≤q_refl x) (≤q_refl x)

pub ≈q_trans : {x y z : Fraction} → x ≈q y → y ≈q z → x ≈q z
≈q_trans h k = ≤q_antisym (≤q_trans (≈q-≤q h) (≈q-≤q k)) (≤q_trans (≈q_≥q k) (≈q_≥q h))

pub add_cong : {x x' y y' : Fraction} → x ≈q x' → y ≈q y' → x +q y ≈q x' +q y'
add_cong h k = ≤q_antisym (add_mono (≈q-≤q h) (≈q-≤q k)) (add_mono (≈q_≥q h) (≈q_≥q k))

mul_le : {x x' : Fraction} (y : Fraction) → x ≈q x' → x *q y ≤q x' *q y
mul_le {x} {x'} y e =
    let p = mul-le-mul_right (up y.num * y.den) (le_as (is_self x) (is_self x') (≈q-≤q e)) in
    let q = mul-le-mul_right (down y.num * y.den) (le_as (is_self x') (is_self x) (≈q_≥q e)) in
    le_of (mul-Is (is_self x) (is_self y)) (mul-Is (is_self x') (is_self y)) (omega arith)

pub mul_cong_left : {x x' : Fraction} (y : Fraction) → x ≈q x' → x *q y ≈q x' *q y
mul_cong_left y e = ≤q_antisym (mul_le y e) (mul_le y (≈q_sym e))

-- the same with the top and the bottom multiplied by k
cancelled : {x y : Fraction} (u v d k : ℕ) → Is x (u * k) (v * k) (d * k) → Is y u v d → x ≈q y
cancelled u v d k i j = eq_of i j (omega arith)

pub written : {x : Fraction} {u v d u' v' d' : ℕ} → Is x u v d → u ≡ u' → v ≡ v' → d ≡ d' → Is x u' v' d'
written i p q r = rw (← p, ← q, ← r) i

module _ (x y z : Fraction) where
  -- (x y) z and x (y z)
  pub mul_assoc : (x *q y) *q z ≈q x *q (y *q z)
  mul_assoc =
      eq_of (mul-Is (mul-Is (is_self x) (is_self y)) (is_self z)) (mul-Is (is_self x) (mul-Is (is_self y) (is_self z)))
      (omega arith)

  -- x y + x z and x (y + z)
  pub mul_add : x *q y +q x *q z ≈q x *q (y +q z)
  mul_add =
      cancelled _ _ _ x.den (written (add-Is (mul-Is (is_self x) (is_self y)) (mul-Is (is_self x) (is_self z)))
      (omega arith) (omega arith) (omega arith)) (mul-Is (is_self x) (add-Is (is_self y) (is_self z)))

  -- x (y z) and y (x z)
  pub mul_swap : x *q (y *q z) ≈q y *q (x *q z)
  mul_swap =
      eq_of (mul-Is (is_self x) (mul-Is (is_self y) (is_self z))) (mul-Is (is_self y) (mul-Is (is_self x) (is_self z)))
      (omega arith)

pub mul_comm : (x y : Fraction) → x *q y ≈q y *q x
mul_comm x y = eq_of (mul-Is (is_self x) (is_self y)) (mul-Is (is_self y) (is_self x)) (omega arith)

pub mul_cong_right : (x : Fraction) {y y' : Fraction} → y ≈q y' → x *q y ≈q x *q y'
mul_cong_right x {y} {y'} e = ≈q_trans (mul_comm x y) (≈q_trans (mul_cong_left x e) (mul_comm y' x))

pub mul_neg : (x y : Fraction) → neg_q (x *q y) ≈q x *q neg_q y
mul_neg x y = eq_of (neg-Is (mul-Is (is_self x) (is_self y))) (mul-Is (is_self x) (neg-Is (is_self y))) (omega arith)

-- s (x y) − x z is x (s y − z)
pub mul_sub : (x y z s : Fraction) → s *q (x *q y) -q x *q z ≈q x *q (s *q y -q z)
unfolding ◌-q◌
mul_sub x y z s = ≈q_trans (add_cong (mul_swap s x y) (mul_neg x z)) (mul_add x (s *q y) (neg_q z))

-- (−x) y is x (−y), and x y is −((−x) y)
pub neg_swap : (x y : Fraction) → neg_q x *q y ≈q x *q neg_q y
neg_swap x y = eq_of (mul-Is (neg-Is (is_self x)) (is_self y)) (mul-Is (is_self x) (neg-Is (is_self y))) (omega arith)

pub neg_twice : (x y : Fraction) → x *q y ≈q neg_q (neg_q x *q y)
neg_twice x y = eq_of (mul-Is (is_self x) (is_self y)) (neg-Is (mul-Is (neg-Is (is_self x)) (is_self y))) (omega arith)

-- x + 0 is x, and −x + (x + y) is y
pub add_zero : (x : Fraction) → x ≈q x +q zero_q
add_zero x = eq_of (is_self x) (add-Is (is_self x) zero-Is) (omega arith)

pub add_cancel : (x y : Fraction) → y ≈q neg_q x +q (x +q y)
add_cancel x y = eq_of (is_self y) (add-Is (neg-Is (is_self x)) (add-Is (is_self x) (is_self y))) (omega arith)

pub neg_cong : {x y : Fraction} → x ≈q y → neg_q x ≈q neg_q y
neg_cong e = ≤q_antisym (neg_anti (≈q_≥q e)) (neg_anti (≈q-≤q e))

pub mul_zero : {x : Fraction} (y : Fraction) → x ≈q zero_q → x *q y ≈q zero_q
mul_zero y e = ≈q_trans (mul_cong_left y e) (eq_of (mul-Is zero-Is (is_self y)) zero-Is (omega arith))
