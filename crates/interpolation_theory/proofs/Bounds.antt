-- How wide the computed ends are, and how far they reach.
use Rattle.std.specs.Prelude.{ℕ}
use mathlib.Core.Path.{◌≡◌, ap}
use Prim.Native.Nat.{ℕ, ◌+◌, ◌*◌, ◌-◌, ◌/◌, ◌≤◌, ◌<◌, min}
use native.Mathlib.Nat.{mul-le-mul_left, mul-le-mul_right, lt_of_mul-lt-mul_right, div-mul-le_self, div-le_of_le-mul}
use native.Mathlib.Nat.{lt-div-mul-add}
use native.Mathlib.Decide.{dec_le}
use native.Mathlib.Omega.{arith}
use borrow.Author.Tests.{le-leb}
use lib.Dec.{leb, nleb→lt}
use lib.IntN.{pos, ◌+ℤ◌}
use lib.Signed.{◌≤ℤ◌}
use Rattle.toolbox_theory.proofs.Tests.{by_test}
use Rattle.interval_theory.specs.declared.Ends.{Ends}
use Rattle.interval_theory.specs.declared.SignedPair.{SignedPair}
use Rattle.interval_theory.specs.Signed.{SmallerThan}
use Rattle.interval_theory.specs.Bound.{Bound, SignedWithin, Ranges, Reaches, Near}
use Rattle.interval_theory.proofs.SignedBounds.{between_narrow, between_reaches, between_small}
use Rattle.interpolation_theory.specs.Evaluation.{part_down, part_up, interpolated_of, Share}
use Rattle.interpolation_theory.proofs.Values.{rearranged}

-- ---- how wide

-- of the part that is added and the one that is taken off, one is zero: together they are a unit away at most from what
-- they are rounded from
record Rounded (x y : ℕ) (τ υ : Ends ℕ) : Type 0 where
  more : ℕ
  less : ℕ
  added : (x - y) * τ.low + min 1 (x - y) ≤ more * υ.high
  taken : less * υ.low ≤ (y - x) * τ.high
  once : more + part_up y x τ.high υ.low ≤ part_down x y τ.low υ.high + less + 1

rounded : (x y : ℕ) (τ υ : Ends ℕ) → 1 ≤ υ.high → Rounded x y τ υ
unfolding part_up part_down
rounded x y τ υ some = elim (dec_le x y) [
  | yes h ↦
      let less = (y - x) * τ.high / υ.low in
      let e : x - y ≡ 0 = omega arith in
      record {
        more = 0;
        less = less;
        added = rw e (omega arith);
        taken = div-mul-le_self ((y - x) * τ.high) υ.low;
        once = let up : part_up y x τ.high υ.low ≤ less + 1 =
            by_test (leb y x) (λ z. z ≤ less + 1) (λ _. omega arith) (λ _. omega arith) in omega arith;
      }
  | no h ↦
      let after = lt-div-mul-add {a = (x - y) * τ.low} some in
      record {
        more = (x - y) * τ.low / υ.high + 1;
        less = 0;
        added = omega arith;
        taken = omega arith;
        once = let g : y ≤ x = omega arith in rw (le-leb y x g) (omega arith);
      }
]

module _ {n : ℕ} {τ υ : Ends ℕ} (share : Share n τ υ) where
  -- τ's high end over υ's low one is above τ's low end over υ's high one by 2n/υ.low at most
  spread : τ.high * υ.high ≤ τ.low * υ.low + 2 * n * υ.high
  spread =
      omega (
        arith,
        mul-le-mul_right υ.high share.narrow,
        mul-le-mul_left τ.low share.whole_narrow,
        mul-le-mul_right n share.part,
      )

  -- i is m at most where j is zero, and else d at most: there is room for d, and for more than m
  room : (i j : ℕ) {m d c : ℕ} → (j ≤ 0 → i ≤ m) → (1 ≤ j → i ≤ d) → m * (2 * n) < c → d * (2 * n) ≤ c →
      i * (2 * n) + (1 - j) ≤ c
  room i j none any hm hd = elim (dec_le j 0) [
    | yes z ↦ omega (arith, mul-le-mul_right (2 * n) (none z))
    | no z ↦ omega (arith, mul-le-mul_right (2 * n) (any (omega arith)))
  ]

  -- from v wide to w wide, by the greatest share of i and the least of j, one of which is rounded
  growth : (i j k m v w r s : ℕ) → i + v ≡ j + w → v ≤ m → w ≤ m → 1 ≤ r + s → i * (2 * n) + r ≤ k * υ.low →
      (l g : ℕ) → j * τ.low + s ≤ g * υ.high → l * υ.low ≤ i * τ.high → l + v < g + m + k
  growth i j k m v w r s e hv hw one few l g hg hl =
      let level : i * τ.low + v * υ.high + s ≤ (g + m) * υ.high =
      omega (arith, ap (λ z. z * τ.low) e, rearranged hv share.part, mul-le-mul_right τ.low hw) in
      let high : 1 ≤ υ.high = omega arith in
      lt_of_mul-lt-mul_right (υ.low * υ.high)
      (omega (
        arith,
        mul-le-mul_right υ.low level,
        mul-le-mul_right υ.high hl,
        mul-le-mul_left i spread,
        mul-le-mul_right υ.high few,
        mul-le-mul_left r high,
        mul-le-mul_left s share.some,
      ))

  -- ---- how far

  -- where x exceeds y by d at most, and neither g − l nor that much more is above h
  reach : (x y g l h d k : ℕ) → x ≤ y + d → d * (2 * n) ≤ k * υ.low → g ≤ l + h → g + x ≤ l + h + y →
      g + part_up x y τ.high υ.low ≤ l + h + k + 1
  unfolding part_up
  reach x y g l h d k near few start end =
      let high : τ.high ≤ υ.low + 2 * n = omega arith in
      let most : x - y ≤ d = omega arith in
      let part : (x - y) * τ.high / υ.low ≤ x - y + k =
      div-le_of_le-mul υ.low (omega (arith, mul-le-mul_left (x - y) high, mul-le-mul_right (2 * n) most)) in
      by_test (leb x y) (λ z. g + z ≤ l + h + k + 1) (λ _. omega arith) (λ _. omega (arith, nleb→lt))

  -- a part that is rounded down is no more than what it is part of
  no_further : (x y : ℕ) → part_down x y τ.low υ.high ≤ x - y
  unfolding part_down
  no_further x y = div-le_of_le-mul υ.high (omega (arith, mul-le-mul_left (x - y) share.part))

-- ---- of a and b

module _ (a b : SignedPair) {α β : Bound} {τ υ : Ends ℕ} {n d : ℕ} (p : SignedWithin a α) (q : SignedWithin b β)
    (near : Near d a b) (share : Share n τ υ) (k : ℕ) (few : d * (2 * n) ≤ k * υ.low) where
  -- neither is more than m wide
  pub interpolated_narrow : (m : ℕ) → α.width ≤ m → β.width ≤ m → m * (2 * n) < k * υ.low →
      (interpolated_of a b τ υ).high ≤ℤ ((interpolated_of a b τ υ).low +ℤ pos (m + k + 3))
  unfolding interpolated_of
  interpolated_narrow m hα hβ some =
      let above = b.gain.low + a.loss.high in
      let below = a.gain.low + b.loss.high in
      let over = b.gain.high + a.loss.low in
      let under = a.gain.high + b.loss.low in
      let i = over - under + (below - above) in
      let j = above - below + (under - over) in
      let v = a.gain.high + a.loss.high - (a.gain.low + a.loss.low) in
      let w = b.gain.high + b.loss.high - (b.gain.low + b.loss.low) in
      let r = min 1 (above - below) + min 1 (under - over) in
      let wide =
      growth share i j k m v w (1 - j) r (omega arith) (omega arith) (omega arith) (omega arith)
      (room share i j (λ z. omega arith) (λ z. omega arith) some few) in
      let high : 1 ≤ υ.high = omega arith in
      let x = rounded above below τ υ high in
      let y = rounded under over τ υ high in
      let sum =
      wide (x.less + y.less) (x.more + y.more) (omega (arith, x.added, y.added))
      (omega (arith, x.taken, y.taken)) in
      between_narrow _ _ _ _ (m + k + 3) (omega (arith, x.once, y.once, sum))

  -- both lie from −l to h
  module _ (l h : ℕ) (x : Ranges l h a) (y : Ranges l h b) where
    top : a.gain.high + part_up (b.gain.high + a.loss.low) (a.gain.high + b.loss.low) τ.high υ.low ≤
        a.loss.low + h + k + 1
    top = reach share _ _ a.gain.high a.loss.low h d k (omega arith) few (omega arith) (omega arith)

    bottom : a.loss.high + part_up (a.gain.low + b.loss.high) (b.gain.low + a.loss.high) τ.high υ.low ≤
        a.gain.low + l + k + 1
    bottom = reach share _ _ a.loss.high a.gain.low l d k (omega arith) few (omega arith) (omega arith)

    pub interpolated_reaches : (g : ℕ) → k + 2 ≤ g → Reaches (l + g) (h + g) (interpolated_of a b τ υ)
    unfolding interpolated_of
    interpolated_reaches g more =
        between_reaches _ _ _ _ (l + g) (h + g) (omega (arith, bottom, more)) (omega (arith, top, more))

    pub interpolated_small : (N : ℕ) → l + k + 2 < N → h + k + 2 < N → SmallerThan N (interpolated_of a b τ υ)
    unfolding interpolated_of
    interpolated_small N hl hh =
        let low = no_further share (b.gain.low + a.loss.high) (a.gain.low + b.loss.high) in
        let high = no_further share (a.gain.high + b.loss.low) (b.gain.high + a.loss.low) in
        between_small _ _ _ _ N (omega arith) (omega (arith, bottom)) (omega (arith, top)) (omega arith)
