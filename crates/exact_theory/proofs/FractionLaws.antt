-- The laws of fractions that the pairs need: the order, and how the operations go with it, by way of natural numbers.
use mathlib.Core.Path.{◌≡◌, refl, sym, ap}
use mathlib.Core.Logic.{◌⊎◌, inl, inr}
use mathlib.Core.Bool.{cond}
use Prim.Native.Nat.{ℕ, zero, suc, ◌+◌, ◌*◌, ◌<◌, ◌≤◌}
use native.Mathlib.Nat.{mul-pos, one-le-mul, mul-le-mul_right, le_of_mul-le-mul_right}
use native.Mathlib.Omega.{arith}
use lib.IntN.{ℤ, pos, negsuc, ◌*ℤ◌}
use Rattle.toolbox_theory.specs.Whole.{up, down}
use lib.Dec.{T_not, not_T}
use Rattle.toolbox_theory.proofs.Tests.{by_test}
use Rattle.toolbox_theory.proofs.Whole.{whole_ext, le_in, le_out, gt_out, one_sided, neg_is, add_is, mul_is}
use Rattle.exact_theory.specs.Fraction.{Fraction, ◌over◌, le_q, ◌≤q◌, ◌<q◌, ◌≈q◌, ◌+q◌, neg_q, ◌-q◌, ◌*q◌, zero_q}
use Rattle.exact_theory.specs.Fraction.{flip, recip_q, min_q, max_q}

-- x is (u − v) / d
pub record Is (x : Fraction) (u v d : ℕ) : Type 0 where
  pub value : up x.num + v ≡ down x.num + u
  pub scale : x.den ≡ d

pub is_self : (x : Fraction) → Is x (up x.num) (down x.num) x.den
is_self x = omega arith

-- n is what u exceeds v by
pub is_natural : {x : Fraction} {u v d : ℕ} (n : ℕ) → Is x u v d → n + v ≡ u → Is x n 0 d
is_natural n i e = omega arith

pub over-Is : (z : ℤ) (d : ℕ) → 1 ≤ d → Is (z over d) (up z) (down z) d
unfolding ◌over◌
over-Is z zero h = absurd (omega arith)
over-Is z (suc d) h = is_self (z over suc d)

-- a fraction by its own numerator, also of one sign, where its denominator is known
module _ (x : Fraction) {d : ℕ} (scale : x.den ≡ d) where
  pub num-Is : Is x (up x.num) (down x.num) d
  num-Is = omega arith

  pub num_above : down x.num ≤ 0 → Is x (up x.num) 0 d
  num_above h = omega arith

  pub num_below : up x.num ≤ 0 → Is x 0 (down x.num) d
  num_below h = omega arith

-- n/d has the numerator n
pub num_natural : {x : Fraction} {n d : ℕ} → Is x n 0 d → up x.num ≡ n
num_natural {x} {n} i = elim (one_sided x.num) [ inl h ↦ omega arith | inr h ↦ omega arith ]

pub zero-Is : Is zero_q 0 0 1
unfolding zero_q ◌over◌ up down
zero-Is = record { value = refl; scale = refl }

-- ---- the order, by cross products of natural numbers

-- the cross product of x with y, which the order compares with that of y with x
abbrev across : Fraction → Fraction → ℤ
across x y = x.num *ℤ pos y.den

-- what x is, times k
mult : {x : Fraction} {u v d : ℕ} → Is x u v d → (k : ℕ) → up x.num * k + v * k ≡ down x.num * k + u * k
mult i k = omega (arith, ap (λ z. z * k) i.value)

scaled : {x : Fraction} {u v d : ℕ} → Is x u v d → (k : ℕ) →
    up (x.num *ℤ pos k) + v * k ≡ down (x.num *ℤ pos k) + u * k
unfolding up down
scaled {x} i k = omega (arith, mul_is x.num (pos k), mult i k)

module _ {x y : Fraction} {u v d s t e : ℕ} (i : Is x u v d) (j : Is y s t e) where
  scaled_x : up (across x y) + v * e ≡ down (across x y) + u * e
  scaled_x = rw (← j.scale) (scaled i y.den)

  scaled_y : up (across y x) + t * d ≡ down (across y x) + s * d
  scaled_y = rw (← i.scale) (scaled j x.den)

  pub le_of : u * e + t * d ≤ s * d + v * e → x ≤q y
  unfolding le_q
  le_of h = record { le = le_in (across x y) (across y x) (omega (arith, scaled_x, scaled_y)) }

  pub le_as : x ≤q y → u * e + t * d ≤ s * d + v * e
  unfolding le_q
  le_as h = omega (arith, scaled_x, scaled_y, le_out (across x y) (across y x) h.le)

  pub lt_as : x <q y → u * e + t * d < s * d + v * e
  unfolding le_q
  lt_as h = omega (arith, scaled_x, scaled_y, gt_out (across y x) (across x y) h.lt)

-- ---- the operations

pub neg-Is : {x : Fraction} {u v d : ℕ} → Is x u v d → Is (neg_q x) v u d
unfolding neg_q
neg-Is {x} {u} {v} i = record { value = omega (arith, neg_is x.num); scale = i.scale }

module _ {x y : Fraction} {u v d s t e : ℕ} (i : Is x u v d) (j : Is y s t e) where
  pub add-Is : Is (x +q y) (u * e + s * d) (v * e + t * d) (d * e)
  unfolding ◌+q◌
  add-Is = record {
    value = omega (arith, scaled_x i j, scaled_y i j, add_is (across x y) (across y x));
    scale = rw (i.scale, j.scale);
  }

  pub mul-Is : Is (x *q y) (u * s + v * t) (u * t + v * s) (d * e)
  unfolding ◌*q◌
  mul-Is = record {
    value = omega (arith, mul_is x.num y.num, mult i (up y.num), mult i (down y.num), mult j u, mult j v);
    scale = rw (i.scale, j.scale);
  }

-- ---- signs

pub sign : (x : Fraction) → ((n : ℕ) × Is x n 0 x.den) ⊎ ((n : ℕ) × Is x 0 n x.den)
sign x = elim (one_sided x.num) [ inl h ↦ inl (_, num_above x refl h) | inr h ↦ inr (_, num_below x refl h) ]

-- above zero: n / d with n of at least 1, and one over it is d / n
pub record Above (x : Fraction) : Type 0 where
  pub n : ℕ
  pub some : 0 < n
  pub is : Is x n 0 x.den
  pub turned : Is (recip_q x) x.den 0 n

flip_above : (z : ℤ) (d : ℕ) → down z < up z → (down z ≤ 0) × Is (flip z d) d 0 (up z)
unfolding up down flip ◌over◌
flip_above (pos zero) d h = absurd (omega arith)
flip_above (pos (suc n)) d h = omega arith
flip_above (negsuc n) d h = absurd (omega arith)

pub above_zero : (x : Fraction) → zero_q <q x → Above x
unfolding recip_q
above_zero x h =
    let o = lt_as zero-Is (is_self x) h in
    let f = flip_above x.num x.den (omega arith) in
    record { n = up x.num; some = omega arith; is = num_above x refl f.0; turned = f.1 }

-- ---- the order's own laws

pub ≤q_refl : (x : Fraction) → x ≤q x
≤q_refl x = le_of (is_self x) (is_self x) (omega arith)

pub ≤q_trans : {x y z : Fraction} → x ≤q y → y ≤q z → x ≤q z
≤q_trans {x} {y} {z} h k =
    let p = mul-le-mul_right z.den (le_as (is_self x) (is_self y) h) in
    let q = mul-le-mul_right x.den (le_as (is_self y) (is_self z) k) in
    le_of (is_self x) (is_self z) (le_of_mul-le-mul_right (omega arith) y.positive)

pub <q-≤q : {x y : Fraction} → x <q y → x ≤q y
<q-≤q {x} {y} h = le_of (is_self x) (is_self y) (omega (arith, lt_as (is_self x) (is_self y) h))

-- x is below y, or y is up to x, and not both
not_le : {x y : Fraction} → (y ≤q x → ⊥) → x <q y
not_le {x} {y} f = record { lt = not_T (le_q y x) (λ t. f (record { le = t })) }

clash : {x y : Fraction} → x <q y → y ≤q x → ⊥
clash {x} {y} h k = T_not (le_q y x) h.lt k.le

pub lt_of : {x y : Fraction} {u v d s t e : ℕ} → Is x u v d → Is y s t e → u * e + t * d < s * d + v * e → x <q y
lt_of i j h = not_le (λ g. omega (arith, le_as j i g))

pub ≤q-<q_trans : {x y z : Fraction} → x ≤q y → y <q z → x <q z
≤q-<q_trans h k = not_le (λ g. clash k (≤q_trans g h))

pub <q-≤q_trans : {x y z : Fraction} → x <q y → y ≤q z → x <q z
<q-≤q_trans h k = not_le (λ g. clash h (≤q_trans k g))

-- ---- equality

pub ≈q-≤q : {x y : Fraction} → x ≈q y → x ≤q y
unfolding le_q
≈q-≤q {x} {y} e = record { le = le_in (across x y) (across y x) (omega (arith, ap up e.equal, ap down e.equal)) }

pub ≈q_sym : {x y : Fraction} → x ≈q y → y ≈q x
≈q_sym e = record { equal = sym e.equal }

pub ≈q_≥q : {x y : Fraction} → x ≈q y → y ≤q x
≈q_≥q e = ≈q-≤q (≈q_sym e)

pub ≤q_antisym : {x y : Fraction} → x ≤q y → y ≤q x → x ≈q y
unfolding le_q
≤q_antisym {x} {y} h k = record { equal = whole_ext (across x y) (across y x) (omega (arith, le_out)) }

-- (u − v)/d and (s − t)/e are equal
pub eq_of : {x y : Fraction} {u v d s t e : ℕ} → Is x u v d → Is y s t e → u * e + t * d ≡ s * d + v * e → x ≈q y
eq_of i j h = ≤q_antisym (le_of i j (omega arith)) (le_of j i (omega arith))

-- ---- sums and differences

add_mono_left : {x x' : Fraction} (y : Fraction) → x ≤q x' → x +q y ≤q x' +q y
add_mono_left {x} {x'} y h =
    le_of (add-Is (is_self x) (is_self y)) (add-Is (is_self x') (is_self y))
    (omega (arith, mul-le-mul_right (y.den * y.den) (le_as (is_self x) (is_self x') h)))

pub add_comm_le : (x y : Fraction) → x +q y ≤q y +q x
add_comm_le x y = le_of (add-Is (is_self x) (is_self y)) (add-Is (is_self y) (is_self x)) (omega arith)

pub add_mono : {x x' y y' : Fraction} → x ≤q x' → y ≤q y' → x +q y ≤q x' +q y'
add_mono {x} {x'} {y} {y'} h k =
    ≤q_trans (add_mono_left y h) (≤q_trans (add_comm_le x' y) (≤q_trans (add_mono_left x' k) (add_comm_le y' x')))

pub add_assoc : (x y z : Fraction) → (x +q y) +q z ≈q x +q (y +q z)
add_assoc x y z =
    eq_of (add-Is (add-Is (is_self x) (is_self y)) (is_self z)) (add-Is (is_self x) (add-Is (is_self y) (is_self z)))
    (omega arith)

pub zero_q_add : (x : Fraction) → zero_q +q x ≈q x
zero_q_add x = eq_of (add-Is zero-Is (is_self x)) (is_self x) (omega arith)

pub add_more : (x : Fraction) {y : Fraction} → zero_q ≤q y → x ≤q x +q y
add_more x h = ≤q_trans (≈q_≥q (zero_q_add x)) (≤q_trans (add_comm_le _ _) (add_mono (≤q_refl x) h))

pub add_above : (x : Fraction) {y : Fraction} → zero_q <q y → x <q x +q y
add_above x {y} h =
    let j = above_zero y h in
    lt_of (is_self x) (add-Is (is_self x) j.is)
    (omega (arith, one-le-mul j.some (one-le-mul x.positive x.positive)))

pub neg_anti : {x y : Fraction} → x ≤q y → neg_q y ≤q neg_q x
neg_anti {x} {y} h = le_of (neg-Is (is_self y)) (neg-Is (is_self x)) (omega (arith, le_as (is_self x) (is_self y) h))

pub neg_below : {x y : Fraction} → x <q y → neg_q y <q neg_q x
neg_below {x} {y} h = lt_of (neg-Is (is_self y)) (neg-Is (is_self x)) (omega (arith, lt_as (is_self x) (is_self y) h))

pub sub_mono : {x x' y y' : Fraction} → x ≤q x' → y' ≤q y → x -q y ≤q x' -q y'
unfolding ◌-q◌
sub_mono h k = add_mono h (neg_anti k)

-- ---- products: what lies between two ends goes between their products with y, in one order or the other

mul_mono : {x x' : Fraction} (y : Fraction) {n : ℕ} → Is y n 0 y.den → x ≤q x' → x *q y ≤q x' *q y
mul_mono {x} {x'} y {n} j h =
    le_of (mul-Is (is_self x) j) (mul-Is (is_self x') j)
    (omega (arith, mul-le-mul_right (n * y.den) (le_as (is_self x) (is_self x') h)))

mul_anti : {x x' : Fraction} (y : Fraction) {n : ℕ} → Is y 0 n y.den → x ≤q x' → x' *q y ≤q x *q y
mul_anti {x} {x'} y {n} j h =
    le_of (mul-Is (is_self x') j) (mul-Is (is_self x) j)
    (omega (arith, mul-le-mul_right (n * y.den) (le_as (is_self x) (is_self x') h)))

mul_comm_le : (x y : Fraction) → x *q y ≤q y *q x
mul_comm_le x y = le_of (mul-Is (is_self x) (is_self y)) (mul-Is (is_self y) (is_self x)) (omega arith)

-- z lies between a and b, whichever of them is the lesser
pub data Between (a b z : Fraction) : Type 0 where
  upward : a ≤q z → z ≤q b → Between a b z
  downward : b ≤q z → z ≤q a → Between a b z

pub mul_between_left : {a b x : Fraction} (y : Fraction) → Between a b x → Between (a *q y) (b *q y) (x *q y)
mul_between_left y (upward h k) = elim (sign y) [
  | inl j ↦ upward (mul_mono y j.1 h) (mul_mono y j.1 k)
  | inr j ↦ downward (mul_anti y j.1 k) (mul_anti y j.1 h)
]
mul_between_left y (downward h k) = elim (sign y) [
  | inl j ↦ downward (mul_mono y j.1 h) (mul_mono y j.1 k)
  | inr j ↦ upward (mul_anti y j.1 k) (mul_anti y j.1 h)
]

pub mul_between_right : {a b x : Fraction} (y : Fraction) → Between a b x → Between (y *q a) (y *q b) (y *q x)
mul_between_right {a} {b} {x} y h = turn (mul_between_left y h)
  where
    turned : (c d : Fraction) → c *q y ≤q d *q y → y *q c ≤q y *q d
    turned c d g = ≤q_trans (mul_comm_le y c) (≤q_trans g (mul_comm_le d y))

    turn : Between (a *q y) (b *q y) (x *q y) → Between (y *q a) (y *q b) (y *q x)
    turn (upward g k) = upward (turned a x g) (turned x b k)
    turn (downward g k) = downward (turned b x g) (turned x a k)

pub between_low : {a b z l : Fraction} → Between a b z → l ≤q a → l ≤q b → l ≤q z
between_low (upward h k) p q = ≤q_trans p h
between_low (downward h k) p q = ≤q_trans q h

pub between_high : {a b z l : Fraction} → Between a b z → a ≤q l → b ≤q l → z ≤q l
between_high (upward h k) p q = ≤q_trans k q
between_high (downward h k) p q = ≤q_trans k p

-- ---- what is above zero

pub recip_anti : {x y : Fraction} → zero_q <q x → x ≤q y → recip_q y ≤q recip_q x
recip_anti {x} {y} p h =
    let i = above_zero x p in
    let j = above_zero y (<q-≤q_trans p h) in
    le_of j.turned i.turned (omega (arith, le_as i.is j.is h))

pub mul_above : {x y : Fraction} → zero_q <q x → zero_q <q y → zero_q <q x *q y
mul_above {x} {y} p q =
    let i = above_zero x p in
    let j = above_zero y q in
    lt_of zero-Is (mul-Is i.is j.is) (omega (arith, mul-pos i.some j.some))

-- ---- the lesser and the greater of two

-- a where x is up to y, else b
cases : (x y a b : Fraction) (P : Fraction → Type 0) → (x ≤q y → P a) → (y ≤q x → P b) → P (cond (le_q x y) a b)
cases x y a b P f g = by_test (le_q x y) P (λ t. f (record { le = t })) (λ t. g (<q-≤q (record { lt = t })))

module _ (x y : Fraction) where
  pub min_left : min_q x y ≤q x
  unfolding min_q
  min_left = cases x y x y (λ m. m ≤q x) (λ h. ≤q_refl x) (λ h. h)

  pub min_right : min_q x y ≤q y
  unfolding min_q
  min_right = cases x y x y (λ m. m ≤q y) (λ h. h) (λ h. ≤q_refl y)

  pub max_left : x ≤q max_q x y
  unfolding max_q
  max_left = cases x y y x (λ m. x ≤q m) (λ h. h) (λ h. ≤q_refl x)

  pub max_right : y ≤q max_q x y
  unfolding max_q
  max_right = cases x y y x (λ m. y ≤q m) (λ h. ≤q_refl y) (λ h. h)

-- it is one of them: what holds of both holds of it
module _ {x y : Fraction} (P : Fraction → Type 0) (p : P x) (q : P y) where
  pub min_has : P (min_q x y)
  unfolding min_q
  min_has = cases x y x y P (λ h. p) (λ h. q)

  pub max_has : P (max_q x y)
  unfolding max_q
  max_has = cases x y y x P (λ h. q) (λ h. p)
