-- The bound of each step with pairs that are not below zero: one law for each, and what the code has to know for the
-- step to fit.
use Rattle.std.specs.Prelude.{ℕ}
use Prim.Native.Nat.{ℕ, ◌+◌, ◌*◌, ◌-◌, ◌/◌, ◌^◌, ◌≤◌, ◌<◌}
use native.Mathlib.Nat.{mul-le-mul, mul-le-mul_left, mul-le-mul_right, div-mul-le_self, lt-div-mul-add}
use native.Mathlib.Nat.{le-div_iff_mul-le, div-lt_iff_lt-mul, le_refl, le_trans}
use native.Mathlib.Omega.{arith}
use lib.Dec.{T, leb, leb→le}
use Rattle.toolbox_theory.proofs.Tests.{and_left, and_right}
use Rattle.interval_theory.specs.declared.Ends.{Ends}
use Rattle.interval_theory.specs.Natural.{unit, exactly, scale, MultipleDomain, multiple_of, ProductDomain}
use Rattle.interval_theory.specs.Natural.{product_of, QuotientDomain, quotient_of, sum_of, hull_of}
use Rattle.interval_theory.specs.Bound.{Bound, Within, size, ◌fits◌, upward, pair_bound, multiple_bound}
use Rattle.interval_theory.specs.Bound.{product_bound, quotient_bound, sum_bound, hull_bound}

-- ---- a bound that is no tighter

pub record Fits (α β : Bound) : Type 0 where
  pub width : α.width ≤ β.width
  pub least : β.least ≤ α.least
  pub most : α.most ≤ β.most

pub fitting : {α β : Bound} → T (α fits β) → Fits α β
fitting t = search (and_left, and_right, leb→le)

pub wider : {e : Ends ℕ} {α β : Bound} → Within e α → Fits α β → Within e β
wider z f = omega arith

-- ---- a pair that is given, and equal ends

pub pair_within : (e : Ends ℕ) → T (leb e.low e.high) → Within e (pair_bound e)
pair_within e t = omega (arith, leb→le)

pub exactly_within : {n : ℕ} (b : ℕ) → n ≤ b → Within (exactly n) (size 0 b)
exactly_within b h = omega arith

-- ---- divisions

pub upward_enough : (n d : ℕ) → 1 ≤ d → n ≤ upward n d * d
upward_enough n d h = omega (arith, lt-div-mul-add {a = n + (d - 1)} h)

in_order : (x y : ℕ) {s t : ℕ} → 1 ≤ t → t ≤ s → x ≤ y → x / s ≤ y / t
in_order x y {s} h g le = (le-div_iff_mul-le h).1 (omega (arith, div-mul-le_self x s, mul-le-mul_left (x / s) g))

-- the bound of a division by s: from x to y, w apart at most, from l on and up to m
divided : (x y w l m s : ℕ) → 1 ≤ s → x ≤ y → y ≤ x + w → l ≤ x → y ≤ m →
    Within (record { low = x / s; high = y / s + 1 })
    (record { width = upward w s + 1; least = l / s; most = upward m s + 1 })
divided x y w l m s h order narrow least most =
    let apart : y / s < x / s + (upward w s + 1) =
    (div-lt_iff_lt-mul h).1 (omega (arith, upward_enough w s h, lt-div-mul-add {a = x} h)) in
    let top : y / s < upward m s + 1 = (div-lt_iff_lt-mul h).1 (omega (arith, upward_enough m s h)) in
    omega (arith, in_order x y h (le_refl s) order, in_order l x h (le_refl s) least)

-- ---- multiples

module _ {c m : ℕ} (few : c ≤ m) {e : Ends ℕ} {β : Bound} (z : Within e β) where
  pub multiple_takes : m * β.most < 2 ^ 63 → MultipleDomain c e
  multiple_takes h = omega (arith, mul-le-mul few z.most)

  pub multiple_within : Within (multiple_of c e) (multiple_bound m β)
  unfolding multiple_of
  multiple_within =
      let far : c * e.high ≤ c * e.low + m * β.width =
      omega (arith, mul-le-mul_left c z.narrow, mul-le-mul_right β.width few) in
      let d =
      divided _ _ _ 0 _ scale (omega arith) (mul-le-mul_left c z.order) far (omega arith)
      (mul-le-mul few z.most) in
      omega arith

-- ---- products

module _ {x y : Ends ℕ} {α β : Bound} (p : Within x α) (q : Within y β) where
  pub product_takes : α.most * β.most < 2 ^ 63 → ProductDomain x y
  product_takes h = omega (arith, mul-le-mul p.most q.most)

  -- a product grows by α's most times β's width and β's most times α's width at most
  apart : x.high * y.high ≤ x.low * y.low + (α.most * β.width + β.most * α.width)
  apart =
      omega (
        arith,
        mul-le-mul_left x.high q.narrow,
        mul-le-mul_right β.width p.most,
        mul-le-mul_right y.low p.narrow,
        mul-le-mul_right α.width (le_trans q.order q.most),
      )

  pub product_within : Within (product_of x y) (product_bound α β)
  unfolding product_of
  product_within =
      let d =
      divided _ _ _ _ _ unit (omega arith) (mul-le-mul p.order q.order) apart (mul-le-mul p.least q.least)
      (mul-le-mul p.most q.most) in
      omega arith

  -- ---- sums and hulls

  pub sum_within : Within (sum_of x y) (sum_bound α β)
  unfolding sum_of
  sum_within = omega arith

  pub hull_within : Within (hull_of x y) (hull_bound α β)
  unfolding hull_of
  hull_within = omega arith

-- ---- quotients

module _ {x y : Ends ℕ} {α β : Bound} (p : Within x α) (q : Within y β) (some : 1 ≤ β.least) where
  pub quotient_takes : α.most * unit < 2 ^ 63 → QuotientDomain x y
  quotient_takes h = omega arith

  pub quotient_within : Within (quotient_of x y) (quotient_bound α β)
  unfolding quotient_of
  quotient_within =
      let l = x.low * unit / y.high in
      let h = x.high * unit / y.low in
      let m = α.most * unit / β.least in
      let n = α.width * unit + (m + 1) * β.width in
      let k = upward n β.least in
      let low : 1 ≤ y.low = omega arith in
      let high : 1 ≤ y.high = omega arith in
      let order = in_order (x.low * unit) (x.high * unit) low q.order (omega arith) in
      let most = in_order (x.high * unit) (α.most * unit) some q.least (omega arith) in
      let least = in_order (α.least * unit) (x.low * unit) high q.most (omega arith) in
      let few : (l + 1) * β.width ≤ (m + 1) * β.width = mul-le-mul_right β.width (omega arith) in
      let up = lt-div-mul-add {a = x.low * unit} high in
      let enough = upward_enough n β.least some in
      let narrow : h < l + 1 + k =
      (div-lt_iff_lt-mul low).1 (omega (arith, mul-le-mul_left (l + 1) q.narrow, mul-le-mul_left k q.least)) in
      omega arith
