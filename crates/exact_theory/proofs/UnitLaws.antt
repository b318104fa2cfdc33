-- Values in units. A value lies from one difference of natural numbers of units to another, and each rule leaves facts
-- on natural numbers alone.
use mathlib.Core.Path.{◌≡◌}
use Prim.Native.Nat.{ℕ, ◌+◌, ◌*◌, ◌≤◌}
use native.Mathlib.Omega.{arith}
use lib.IntN.{ℤ, pos, sub_ℕ}
use lib.Signed.{◌≤ℤ◌}
use Rattle.toolbox_theory.specs.Whole.{up, down}
use Rattle.toolbox_theory.proofs.Whole.{≤ℤ_in, sub_is, sub_zero}
use Rattle.exact_theory.specs.Fraction.{Fraction, ◌≤q◌, ◌≈q◌, ◌+q◌, neg_q, ◌-q◌, ◌*q◌}
use Rattle.exact_theory.specs.Pair.{◌∈◌}
use Rattle.exact_theory.specs.Formula.{Formula, Encloses, units, ends}
use Rattle.exact_theory.proofs.FractionLaws.{Is, le_of, le_as, add-Is, mul-Is, neg-Is, over-Is, ≤q_trans}
use Rattle.exact_theory.proofs.FractionLaws.{≈q-≤q, ≈q_≥q}
use Rattle.exact_theory.proofs.FractionLaws.{add_mono, neg_anti, upward, mul_between_right, between_low}
use Rattle.exact_theory.proofs.FractionLaws.{between_high}

-- p − q units
pub units-Is : (p q : ℕ) → Is (units (sub_ℕ p q)) p q 1_000_000_000
unfolding units
units-Is p q = omega (arith, sub_is p q, over-Is (sub_ℕ p q) 1_000_000_000 (omega arith))

-- ends that enclose a formula are in order
pub in_order : {low high : ℤ} {f : Formula} → Encloses (ends low high) f → low ≤ℤ high
unfolding ends units
in_order {low} {high} e =
    let point = (e.meets 1 (omega arith)).left in
    let is : (z : ℤ) → Is (units z) (up z) (down z) 1_000_000_000 = λ z. over-Is z 1_000_000_000 (omega arith) in
    ≤ℤ_in (omega (arith, le_as (is low) (is high) (≤q_trans point.from point.to)))

-- x lies from lu − ld to hu − hd units
pub record Lies (x : Fraction) (lu ld hu hd : ℕ) : Type 0 where
  pub from : units (sub_ℕ lu ld) ≤q x
  pub to : x ≤q units (sub_ℕ hu hd)

pub lies_ends : {x : Fraction} {lu ld hu hd : ℕ} → Lies x lu ld hu hd → x ∈ ends (sub_ℕ lu ld) (sub_ℕ hu hd)
unfolding ends
lies_ends h = record { from = h.from; to = h.to }

pub lies_natural : {x : Fraction} (l h : ℕ) → x ∈ ends (pos l) (pos h) → Lies x l 0 h 0
unfolding ends
lies_natural l h p = record { from = rw (sub_zero l) p.from; to = rw (sub_zero h) p.to }

-- x lies between two numbers, and they between the ends
lies_between : {x y z : Fraction} {u v d s t e : ℕ} → Is y u v d → Is z s t e → y ≤q x → x ≤q z → (lu ld hu hd : ℕ) →
    lu * d + v * 1_000_000_000 ≤ u * 1_000_000_000 + ld * d →
    s * 1_000_000_000 + hd * e ≤ hu * e + t * 1_000_000_000 → Lies x lu ld hu hd
lies_between i j h k lu ld hu hd p q = record {
  from = ≤q_trans (le_of (units-Is lu ld) i (omega arith)) h;
  to = ≤q_trans k (le_of j (units-Is hu hd) (omega arith));
}

pub lies_wider : {x : Fraction} {lu ld hu hd : ℕ} → Lies x lu ld hu hd → (lu' ld' hu' hd' : ℕ) →
    lu' + ld ≤ lu + ld' → hu + hd' ≤ hu' + hd → Lies x lu' ld' hu' hd'
lies_wider {lu = lu} {ld} {hu} {hd} h lu' ld' hu' hd' p q =
    lies_between (units-Is lu ld) (units-Is hu hd) h.from h.to lu' ld' hu' hd' (omega arith) (omega arith)

pub lies_same : {x y : Fraction} {lu ld hu hd : ℕ} → x ≈q y → Lies y lu ld hu hd → Lies x lu ld hu hd
lies_same e h = record { from = ≤q_trans h.from (≈q_≥q e); to = ≤q_trans (≈q-≤q e) h.to }

-- a stated number (u − v) / d that is the whole number p − q of units
pub lies_stated : {x : Fraction} {u v d : ℕ} → Is x u v d → (p q : ℕ) →
    p * d + v * 1_000_000_000 ≡ u * 1_000_000_000 + q * d → Lies x p q p q
lies_stated i p q e = record { from = le_of (units-Is p q) i (omega arith); to = le_of i (units-Is p q) (omega arith) }

pub lies_negated : {x : Fraction} {lu ld hu hd : ℕ} → Lies x lu ld hu hd → Lies (neg_q x) hd hu ld lu
lies_negated {lu = lu} {ld} {hu} {hd} h =
    lies_between (neg-Is (units-Is hu hd)) (neg-Is (units-Is lu ld)) (neg_anti h.to) (neg_anti h.from)
    hd hu ld lu (omega arith) (omega arith)

pub lies_sum : {x y : Fraction} {a a' b b' c c' d d' : ℕ} → Lies x a a' b b' → Lies y c c' d d' →
    Lies (x +q y) (a + c) (a' + c') (b + d) (b' + d')
lies_sum {a = a} {a'} {b} {b'} {c} {c'} {d} {d'} h k =
    lies_between (add-Is (units-Is a a') (units-Is c c')) (add-Is (units-Is b b') (units-Is d d'))
    (add_mono h.from k.from) (add_mono h.to k.to) _ _ _ _ (omega arith) (omega arith)

pub lies_difference : {x y : Fraction} {a a' b b' c c' d d' : ℕ} → Lies x a a' b b' → Lies y c c' d d' →
    Lies (x -q y) (a + d') (a' + d) (b + c') (b' + c)
unfolding ◌-q◌
lies_difference h k = lies_sum h (lies_negated k)

-- (u − v)/s times (e − e') is at least lu − ld, and at most hu − hd
abbrev pub AtLeast : ℕ → ℕ → ℕ → ℕ → ℕ → ℕ → ℕ → Type 0
AtLeast u v s e e' lu ld = lu * s + (u * e' + v * e) ≤ ld * s + (u * e + v * e')

abbrev pub AtMost : ℕ → ℕ → ℕ → ℕ → ℕ → ℕ → ℕ → Type 0
AtMost u v s e e' hu hd = hd * s + (u * e + v * e') ≤ hu * s + (u * e' + v * e)

-- a stated number (u − v)/s times x, rounded outward: enough that both ends of x times the number lie within
module _ {c x : Fraction} {u v s a a' b b' : ℕ} (i : Is c u v s) (k : Lies x a a' b b') (lu ld hu hd : ℕ) where
  at_least : (e e' : ℕ) → AtLeast u v s e e' lu ld → units (sub_ℕ lu ld) ≤q c *q units (sub_ℕ e e')
  at_least e e' h = le_of (units-Is lu ld) (mul-Is i (units-Is e e')) (omega arith)

  at_most : (e e' : ℕ) → AtMost u v s e e' hu hd → c *q units (sub_ℕ e e') ≤q units (sub_ℕ hu hd)
  at_most e e' h = le_of (mul-Is i (units-Is e e')) (units-Is hu hd) (omega arith)

  pub lies_multiple : AtLeast u v s a a' lu ld → AtLeast u v s b b' lu ld →
      AtMost u v s a a' hu hd → AtMost u v s b b' hu hd → Lies (c *q x) lu ld hu hd
  lies_multiple p q p' q' =
      let m = mul_between_right c (upward k.from k.to) in
      record {
        from = between_low m (at_least a a' p) (at_least b b' q);
        to = between_high m (at_most a a' p') (at_most b b' q');
      }
