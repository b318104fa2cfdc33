-- What the steps with pairs that are not below zero hold: of values between the ends of what goes in, the result lies
-- between the ends of what comes out.
use Rattle.std.specs.Prelude.{ℕ}
use mathlib.Core.Path.{◌≡◌, ap}
use Prim.Native.Nat.{ℕ, ◌+◌, ◌*◌, ◌/◌, ◌≤◌, ◌<◌}
use native.Mathlib.Nat.{mul-le-mul, mul-le-mul_left, mul-le-mul_right, div-mul-le_self, lt-div-mul-add}
use native.Mathlib.Omega.{arith}
use lib.IntN.{sub_ℕ}
use Rattle.exact_theory.specs.Fraction.{Fraction, ◌+q◌, neg_q, ◌*q◌, ◌/q◌, recip_q}
use Rattle.exact_theory.specs.Formula.{units}
use Rattle.exact_theory.proofs.FractionLaws.{Is, zero-Is, ≤q_trans, <q-≤q_trans, le_as, le_of, lt_of, neg-Is, Above}
use Rattle.exact_theory.proofs.FractionLaws.{above_zero, upward, mul_between_left, between_low, between_high}
use Rattle.exact_theory.proofs.AlgebraLaws.{mul_comm, neg_swap, neg_twice}
use Rattle.exact_theory.proofs.UnitLaws.{Lies, units-Is, lies_same, lies_wider, lies_negated, lies_sum, lies_multiple}
use Rattle.interval_theory.specs.declared.Ends.{Ends}
use Rattle.interval_theory.specs.Natural.{unit, scale, multiple_of, product_of, quotient_of, sum_of, hull_of}

-- x lies between e's ends
abbrev pub Held : Fraction → Ends ℕ → Type 0
Held x e = Lies x e.low 0 e.high 0

-- −x does
abbrev pub HeldBelow : Fraction → Ends ℕ → Type 0
HeldBelow x e = Lies x 0 e.high 0 e.low

pub natural_order : {x : Fraction} {e : Ends ℕ} → Held x e → e.low ≤ e.high
natural_order {e = e} h =
    omega (arith, le_as (units-Is e.low 0) (units-Is e.high 0) (≤q_trans h.from h.to))

-- what is divided by s is at most s times the number after the quotient
pub next : (x s : ℕ) → 1 ≤ s → x ≤ (x / s + 1) * s
next x s h = omega (arith, lt-div-mul-add {a = x} h)

-- c x by −c x
negated : (c x : Fraction) {lu ld hu hd : ℕ} → Lies (neg_q c *q x) lu ld hu hd → Lies (c *q x) hd hu ld lu
negated c x h = lies_same (neg_twice c x) (lies_negated h)

-- c is u/s or −u/s, which is k/scale in absolute value, and x lies between e's ends or between their negatives
module _ (u s k : ℕ) (same : u * scale ≡ k * s) where
  pub multiple_held : {c x : Fraction} {e : Ends ℕ} → Held x e → Is c u 0 s → Held (c *q x) (multiple_of k e)
  unfolding multiple_of
  multiple_held {e = e} h i =
      let low : k * e.low / scale * s ≤ u * e.low =
      omega (arith, mul-le-mul_right s (div-mul-le_self (k * e.low) scale), ap (λ z. z * e.low) same) in
      let high : u * e.high ≤ (k * e.high / scale + 1) * s =
      omega (arith, mul-le-mul_right s (next (k * e.high) scale (omega arith)), ap (λ z. z * e.high) same) in
      let o = mul-le-mul_left u (natural_order h) in
      lies_multiple i h _ _ _ _ (omega arith) (omega arith) (omega arith) (omega arith)

  pub minus_held : {c x : Fraction} {e : Ends ℕ} → Held x e → Is c 0 u s → HeldBelow (c *q x) (multiple_of k e)
  minus_held {c} {x} h i = negated c x (multiple_held h (neg-Is i))

  pub multiple_below : {c x : Fraction} {e : Ends ℕ} → HeldBelow x e → Is c u 0 s → HeldBelow (c *q x) (multiple_of k e)
  multiple_below {c} {x} h i = negated c x (lies_same (neg_swap c x) (multiple_held (lies_negated h) i))

  pub minus_below : {c x : Fraction} {e : Ends ℕ} → HeldBelow x e → Is c 0 u s → Held (c *q x) (multiple_of k e)
  minus_below {c} {x} h i = negated c x (multiple_below h (neg-Is i))

-- both ends of x, which may be below zero, times both ends of y
module _ {x y : Fraction} {lu ld hu hd : ℕ} {e : Ends ℕ} (h : Lies x lu ld hu hd) (k : Held y e) (gains : lu ≤ hu)
    (losses : hd ≤ ld) where
  pub product_lies : (p q r s : ℕ) → p * unit ≤ lu * e.low → ld * e.high ≤ q * unit → hu * e.high ≤ r * unit →
      s * unit ≤ hd * e.low → Lies (x *q y) p q r s
  product_lies p q r s i j m n =
      let b = mul_between_left y (upward h.from h.to) in
      let low = side lu ld (omega arith) gains losses (omega arith) in
      let high = side hu hd gains (omega arith) (omega arith) losses in
      record { from = between_low b low.from high.from; to = between_high b low.to high.to }
    where
      -- an end g − l of x, times y
      side : (g l : ℕ) → lu ≤ g → g ≤ hu → hd ≤ l → l ≤ ld → Lies (units (sub_ℕ g l) *q y) p q r s
      side g l lg gh hl lf =
          let at : (f : ℕ) → e.low ≤ f → f ≤ e.high →
          (p * unit + l * f ≤ q * unit + g * f) × (s * unit + g * f ≤ r * unit + l * f) =
          λ f a b. omega (arith, mul-le-mul lg a, mul-le-mul gh b, mul-le-mul hl a, mul-le-mul lf b) in
          let o = natural_order k in
          let low = at e.low (omega arith) o in
          let high = at e.high o (omega arith) in
          lies_multiple (units-Is g l) k p q r s (omega arith) (omega arith) (omega arith) (omega arith)

pub product_held : {x y : Fraction} {a b : Ends ℕ} → Held x a → Held y b → Held (x *q y) (product_of a b)
unfolding product_of
product_held h k =
    product_lies h k (natural_order h) (omega arith) _ _ _ _ (omega arith) (omega arith) (omega arith) (omega arith)

pub sum_held : {x y : Fraction} {a b : Ends ℕ} → Held x a → Held y b → Held (x +q y) (sum_of a b)
unfolding sum_of
sum_held h k = lies_sum h k

-- ---- one over what lies between two ends above zero, and a quotient

module _ {y : Fraction} {b : Ends ℕ} (k : Held y b) (some : 0 < b.low) where
  turned : Above y
  turned = above_zero y (<q-≤q_trans (lt_of zero-Is (units-Is b.low 0) (omega arith)) k.from)

  -- l is at most a/y units, and u at least
  at_most : (l a : ℕ) → l * b.high ≤ a * unit → l * turned.n ≤ a * y.den
  at_most l a g =
      let p = le_as turned.is (units-Is b.high 0) k.to in
      omega (arith, mul-le-mul_left l p, mul-le-mul_right y.den g)

  at_least : (u a : ℕ) → a * unit ≤ u * b.low → a * y.den ≤ u * turned.n
  at_least u a g =
      let p = le_as (units-Is b.low 0) turned.is k.from in
      omega (arith, mul-le-mul_left u p, mul-le-mul_right y.den g)

  pub recip_held : (r : Ends ℕ) → r.low * b.high ≤ unit * unit → unit * unit ≤ r.high * b.low → Held (recip_q y) r
  recip_held r low high = record {
    from = le_of (units-Is r.low 0) turned.turned (omega (arith, at_most r.low unit low));
    to = le_of turned.turned (units-Is r.high 0) (omega (arith, at_least r.high unit high));
  }

pub quotient_held : {x y : Fraction} {a b : Ends ℕ} → Held x a → Held y b → 0 < b.low → Held (x /q y) (quotient_of a b)
unfolding quotient_of ◌/q◌
quotient_held {x} {y} {a} {b} h k some =
    let low = at_most k some _ a.low (div-mul-le_self (a.low * unit) b.high) in
    let high = at_least k some _ a.high (next (a.high * unit) b.low some) in
    let o = mul-le-mul_right y.den (natural_order h) in
    lies_same (mul_comm x (recip_q y))
    (lies_multiple (turned k some).turned h _ _ _ _ (omega arith) (omega arith) (omega arith) (omega arith))

-- ---- hulls

pub hull_left : {x : Fraction} {a : Ends ℕ} (b : Ends ℕ) → Held x a → Held x (hull_of a b)
unfolding hull_of
hull_left b h = lies_wider h _ _ _ _ (omega arith) (omega arith)

pub hull_right : {x : Fraction} (a : Ends ℕ) {b : Ends ℕ} → Held x b → Held x (hull_of a b)
unfolding hull_of
hull_right a h = lies_wider h _ _ _ _ (omega arith) (omega arith)
