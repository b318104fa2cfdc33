-- Exact fractions. Document 01, 'What the numbers mean': "A fraction is a signed whole number over a whole number of at
-- least 1, and two are equal or in order as their cross products are."
use Rattle.std.specs.Prelude.{◌≡◌, Bool, not, cond, ℕ, zero, suc, ◌*◌, ◌≤◌, T, ℤ, pos, negsuc, neg_ℤ, ◌+ℤ◌, ◌*ℤ◌}
use Rattle.std.proofs.Common.{zero-le, suc-le-suc, mul-pos}
use Rattle.std.specs.Int.Signed.{le_z}

-- "a signed whole number over a whole number of at least 1"
pub record Fraction : Type 0 where
  pub num : ℤ
  pub den : ℕ
  pub positive : 1 ≤ den

infix 80 ◌over◌
-- z / d, for d of at least 1. (Over 0 it is 0: only formulas that are not `Defined`, and fineness 0, come to that.)
unfoldable pub ◌over◌ : ℤ → ℕ → Fraction
z over zero = record { num = pos 0; den = 1; positive = suc-le-suc zero-le }
z over suc d = record { num = z; den = suc d; positive = suc-le-suc zero-le }

-- 0
unfoldable pub zero_q : Fraction
zero_q = pos 0 over 1

-- ---- order and equality

-- x up to y: "in order as their cross products are"
unfoldable pub le_q : Fraction → Fraction → Bool
le_q x y = le_z (x.num *ℤ pos y.den) (y.num *ℤ pos x.den)

infix 50 ◌≤q◌ ◌<q◌ ◌≈q◌
-- the same as a fact
pub record ◌≤q◌ (x y : Fraction) : Type 0 where
  pub le : T (le_q x y)

-- x below y: y is not up to x
pub record ◌<q◌ (x y : Fraction) : Type 0 where
  pub lt : T (not (le_q y x))

-- "two are equal .. as their cross products are"
pub record ◌≈q◌ (x y : Fraction) : Type 0 where
  pub equal : x.num *ℤ pos y.den ≡ y.num *ℤ pos x.den

-- ---- the four operations, which document 01 takes as known

infixl 65 ◌+q◌ ◌-q◌
infixl 70 ◌*q◌ ◌/q◌
-- x + y, over the product of the denominators
unfoldable pub ◌+q◌ : Fraction → Fraction → Fraction
x +q y = record {
  num = x.num *ℤ pos y.den +ℤ y.num *ℤ pos x.den;
  den = x.den * y.den;
  positive = mul-pos x.positive y.positive;
}

-- −x
unfoldable pub neg_q : Fraction → Fraction
neg_q x = record { num = neg_ℤ x.num; den = x.den; positive = x.positive }

-- x − y
unfoldable pub ◌-q◌ : Fraction → Fraction → Fraction
x -q y = x +q neg_q y

-- x y
unfoldable pub ◌*q◌ : Fraction → Fraction → Fraction
x *q y = record { num = x.num *ℤ y.num; den = x.den * y.den; positive = mul-pos x.positive y.positive }

-- d / z, for z above zero. (Else it is 0: no formula that is `Defined` comes to that.)
unfoldable pub flip : ℤ → ℕ → Fraction
flip (pos n) d = pos d over n
flip (negsuc n) d = zero_q

-- one over x, for x above zero
unfoldable pub recip_q : Fraction → Fraction
recip_q x = flip x.num x.den

-- x / y, for y above zero
unfoldable pub ◌/q◌ : Fraction → Fraction → Fraction
x /q y = x *q recip_q y

-- ---- for "from the least to the greatest"

-- the lesser of two
unfoldable pub min_q : Fraction → Fraction → Fraction
min_q x y = cond (le_q x y) x y

-- the greater of two
unfoldable pub max_q : Fraction → Fraction → Fraction
max_q x y = cond (le_q x y) y x
