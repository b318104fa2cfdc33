-- The value between two rows lies between the computed ends.
use Rattle.std.specs.Prelude.{ℕ}
use mathlib.Core.Path.{◌≡◌, refl, ap}
use Prim.Native.Nat.{ℕ, ◌+◌, ◌*◌, ◌-◌, ◌≤◌}
use native.Mathlib.Nat.{mul-le-mul_left, mul-le-mul_right, le_of_mul-le-mul_right, div-mul-le_self, le_trans, add_comm}
use native.Mathlib.Decide.{dec_le}
use native.Mathlib.Omega.{arith}
use lib.Dec.{leb, leb→le}
use lib.IntN.{sub_ℕ}
use Rattle.toolbox_theory.specs.Whole.{up, down}
use Rattle.toolbox_theory.proofs.Tests.{by_test}
use Rattle.exact_theory.specs.Fraction.{Fraction, ◌≤q◌, ◌+q◌, neg_q, ◌-q◌, ◌*q◌, recip_q, ◌/q◌}
use Rattle.exact_theory.specs.Pair.{◌∈◌}
use Rattle.exact_theory.specs.Formula.{units, ends}
use Rattle.exact_theory.proofs.FractionLaws.{Is, is_self, is_natural, zero-Is, le_of, le_as, lt_of, add-Is, mul-Is}
use Rattle.exact_theory.proofs.FractionLaws.{neg-Is, ≤q_refl, ≤q_trans, <q-≤q_trans, ≈q-≤q, ≈q_≥q, add_mono, sub_mono}
use Rattle.exact_theory.proofs.FractionLaws.{above_zero}
use Rattle.exact_theory.proofs.AlgebraLaws.{written, ≈q_refl, add_cong, mul_assoc}
use Rattle.exact_theory.proofs.UnitLaws.{Lies, units-Is, lies_negated}
use Rattle.interval_theory.specs.declared.Ends.{Ends}
use Rattle.interval_theory.specs.declared.SignedPair.{SignedPair}
use Rattle.interval_theory.specs.Natural.{unit}
use Rattle.interval_theory.specs.Signed.{between_of}
use Rattle.interval_theory.specs.Bound.{Bound, SignedWithin}
use Rattle.interval_theory.proofs.NaturalValues.{Held, next}
use Rattle.interval_theory.proofs.SignedValues.{LiesIn}
use Rattle.interpolation_theory.specs.Evaluation.{part_down, part_up, interpolated_of, Share}

-- the greater with the greater is more than crosswise
pub rearranged : {i j m n : ℕ} → i ≤ j → m ≤ n → i * n + j * m ≤ j * n + i * m
rearranged {i} {j} {m} {n} h g =
    let e : n - m + m ≡ n = omega arith in
    omega (arith, mul-le-mul_right (n - m) h, ap (λ z. i * z) e, ap (λ z. j * z) e)

-- ---- x + (y − x) r, for r = N/D

abbrev At : Fraction → Fraction → Fraction → Fraction
At x y r = x +q (y -q x) *q r

at-Is : {x y r : Fraction} {xu xd X yu yd Y N D : ℕ} → Is x xu xd X → Is y yu yd Y → Is r N 0 D →
    Is (At x y r) (xu * (Y * X * D) + (yu * X + xd * Y) * N * X) (xd * (Y * X * D) + (yd * X + xu * Y) * N * X)
    (X * (Y * X * D))
unfolding ◌-q◌
at-Is i j k = written (add-Is i (mul-Is (add-Is j (neg-Is i)) k)) (omega arith) (omega arith) refl

-- where x is g − l and y is s − t, it is at least v − w
abbrev Corner : ℕ → ℕ → ℕ → ℕ → ℕ → ℕ → ℕ → ℕ → Type 0
Corner N D s t v w g l = v * D + l * D + (t + g) * N ≤ w * D + g * D + (s + l) * N

-- its high end by the low end of the negatives
mirrored : (x y : Fraction) {r : Fraction} {N D : ℕ} → Is r N 0 D → (v w : ℕ) →
    units (sub_ℕ w v) ≤q At (neg_q x) (neg_q y) r → At x y r ≤q units (sub_ℕ v w)
mirrored x y k v w h =
    le_of (at-Is (is_self x) (is_self y) k) (units-Is v w)
    (omega (arith, le_as (units-Is w v) (at-Is (neg-Is (is_self x)) (neg-Is (is_self y)) k) h))

-- with r fixed it is x (1 − r) + y r: what holds with y's low end for y, and with either end of x for x
module _ {x y r : Fraction} {N D p q c d s t e f : ℕ} (k : Is r N 0 D) (h : Lies x p q c d) (j : Lies y s t e f) where
  at_low_end : At x (units (sub_ℕ s t)) r ≤q At x y r
  at_low_end =
      let g = le_as (is_self _) (is_self _) (sub_mono j.from (≤q_refl x)) in
      add_mono (≤q_refl x)
      (le_of (mul-Is (is_self _) k) (mul-Is (is_self _) k) (omega (arith, mul-le-mul_right (N * D) g)))

  at_corners : (v w : ℕ) → Corner N D s t v w p q → Corner N D s t v w c d → units (sub_ℕ v w) ≤q At x y r
  at_corners v w low high =
      let fact = mul-le-mul_right (X * unit) level in
      ≤q_trans (le_of (units-Is v w) (at-Is (is_self x) (units-Is s t) k) (omega (arith, fact))) at_low_end
    where
      X : ℕ
      X = x.den

      level : v * X * D + t * X * N + down x.num * unit * D + up x.num * unit * N ≤
          w * X * D + s * X * N + up x.num * unit * D + down x.num * unit * N
      level = elim (dec_le N D) [
        | yes g ↦ omega (arith, mul-le-mul_right X low, rearranged (le_as (units-Is p q) (is_self x) h.from) g)
        | no g ↦ omega (
          arith,
          mul-le-mul_right X high,
          rearranged {m = D} {n = N} (le_as (is_self x) (units-Is c d) h.to) (omega arith),
        )
      ]

-- ---- r = t/u, by t's ends and u's

-- N/D, between τ's low end over υ's high one and τ's high end over υ's low one
record Ratio (r : Fraction) (τ υ : Ends ℕ) : Type 0 where
  N : ℕ
  D : ℕ
  is : Is r N 0 D
  low : τ.low * D ≤ N * υ.high
  high : N * υ.low ≤ τ.high * D

ratio : {t u : Fraction} {τ υ : Ends ℕ} → Held t τ → Held u υ → 1 ≤ υ.low → Ratio (t *q recip_q u) τ υ
ratio {t} {u} {τ} {υ} h k some =
    let above = above_zero u (<q-≤q_trans (lt_of zero-Is (units-Is υ.low 0) (omega arith)) k.from) in
    let o = le_as (units-Is τ.low 0) (is_self t) h.from in
    let n = up t.num - down t.num in
    let i : Is t n 0 t.den = is_natural n (is_self t) (omega arith) in
    let m = above.n in
    record {
      N = n * u.den;
      D = t.den * m;
      is = is_natural _ (mul-Is i above.turned) (omega arith);
      low = omega (
        arith,
        mul-le-mul_right m (le_as (units-Is τ.low 0) i h.from),
        mul-le-mul_left n (le_as above.is (units-Is υ.high 0) k.to),
      );
      high = omega (
        arith,
        mul-le-mul_right m (le_as i (units-Is τ.high 0) h.to),
        mul-le-mul_left n (le_as (units-Is υ.low 0) above.is k.from),
      );
    }

-- ---- the parts, against r

up_enough : (x y t u : ℕ) → 1 ≤ u → (x - y) * t ≤ part_up x y t u * u
unfolding part_up
up_enough x y t u h =
    by_test (leb x y) (λ z. (x - y) * t ≤ z * u) (λ l. let e : x - y ≡ 0 = omega (arith, leb→le) in rw e (omega arith))
    (λ _. next ((x - y) * t) u h)

-- the low end from p − q to s − t: what is added in it, and what is taken off
abbrev gained : Ends ℕ → Ends ℕ → ℕ → ℕ → ℕ → ℕ → ℕ
gained τ υ p q s t = p + part_down (s + q) (p + t) τ.low υ.high

abbrev lost : Ends ℕ → Ends ℕ → ℕ → ℕ → ℕ → ℕ → ℕ
lost τ υ p q s t = q + part_up (p + t) (s + q) τ.high υ.low + 1

module _ {n : ℕ} {r : Fraction} {τ υ : Ends ℕ} (share : Share n τ υ) (ρ : Ratio r τ υ) where
  parts : (x y : ℕ) →
      part_down x y τ.low υ.high * ρ.D + y * ρ.N ≤ part_up y x τ.high υ.low * ρ.D + x * ρ.N
  unfolding part_down
  parts x y =
      let A = part_down x y τ.low υ.high in
      let B = part_up y x τ.high υ.low in
      let down : A * ρ.D ≤ (x - y) * ρ.N =
      le_of_mul-le-mul_right {k = υ.high}
      (omega (
        arith,
        mul-le-mul_right ρ.D (div-mul-le_self ((x - y) * τ.low) υ.high),
        mul-le-mul_left (x - y) ρ.low,
      )) (omega arith) in
      let up : (y - x) * ρ.N ≤ B * ρ.D =
      le_of_mul-le-mul_right {k = υ.low}
      (omega (
        arith,
        mul-le-mul_right ρ.D (up_enough y x τ.high υ.low share.some),
        mul-le-mul_left (y - x) ρ.high,
      )) share.some in
      let e : x - y + y ≡ y - x + x = omega arith in
      omega (arith, ap (λ z. z * ρ.N) e)

  -- r is above 1 by so little that δ r is above δ by 1 at most
  over_one : (δ : ℕ) → δ * (2 * n) ≤ υ.low → δ * ρ.N ≤ δ * ρ.D + ρ.D
  over_one δ g =
      let few : τ.high ≤ υ.low + 2 * n = omega arith in
      le_of_mul-le-mul_right {k = υ.low}
      (omega (
        arith,
        mul-le-mul_left δ ρ.high,
        mul-le-mul_left (δ * ρ.D) few,
        mul-le-mul_right ρ.D g,
      )) share.some

  -- of x and y, x at most w wide
  low_end : {x y : Fraction} {p q c d s t e f : ℕ} → Lies x p q c d → Lies y s t e f → p ≤ c → d ≤ q → (w : ℕ) →
      c + q ≤ p + d + w → w * (2 * n) ≤ υ.low →
      units (sub_ℕ (gained τ υ p q s t) (lost τ υ p q s t)) ≤q At x y r
  low_end {p = p} {q} {c} {d} {s} {t} h j gains losses w narrow tight =
      at_corners ρ.is h j _ _ (corner p q (omega arith) (omega arith)) (corner c d (omega arith) narrow)
    where
      corner : (g l : ℕ) → p + l ≤ g + q → g + q ≤ p + l + w →
          Corner ρ.N ρ.D s t (gained τ υ p q s t) (lost τ υ p q s t) g l
      corner g l from to =
          let δ = g + q - (p + l) in
          let e : δ + (p + l) ≡ g + q = omega arith in
          let few : δ ≤ w = omega arith in
          let over = over_one δ (le_trans (mul-le-mul_right (2 * n) few) tight) in
          omega (arith, parts (s + q) (p + t), over, ap (λ z. z * ρ.N) e, ap (λ z. z * ρ.D) e)

-- x + (y − x) t/u
pub interpolated_in : {x y t u : Fraction} (a b : SignedPair) {α : Bound} {τ υ : Ends ℕ} {n : ℕ} → LiesIn x a →
    LiesIn y b → Held t τ → Held u υ → SignedWithin a α → Share n τ υ → α.width * (2 * n) ≤ υ.low →
    x +q (y -q x) *q t /q u ∈ ends (interpolated_of a b τ υ).low (interpolated_of a b τ υ).high
unfolding interpolated_of between_of ends ◌/q◌
interpolated_in {x} {y} {t} {u} a b {α} {τ} {υ} h j ht hu within share tight =
    let ρ = ratio ht hu share.some in
    let same = add_cong (≈q_refl x) (mul_assoc (y -q x) t (recip_q u)) in
    let low = low_end share ρ h j within.gain within.loss α.width within.narrow tight in
    let high =
    low_end share ρ (lies_negated h) (lies_negated j) within.loss within.gain α.width (omega arith) tight in
    let flipped : (f : Ends ℕ → Ends ℕ → ℕ → ℕ → ℕ → ℕ → ℕ) → ℕ =
    λ f. f τ υ a.loss.low a.gain.high b.loss.low b.gain.high in
    record {
      from = ≤q_trans low (≈q_≥q same);
      to =
          ≤q_trans (≈q-≤q same)
          (rw (add_comm b.gain.high a.loss.low, add_comm a.gain.high b.loss.low)
          (mirrored x y ρ.is (flipped lost) (flipped gained) high));
    }
