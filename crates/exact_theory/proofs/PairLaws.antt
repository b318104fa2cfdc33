-- Points go through the operations on pairs: what lies in the operands' pairs is taken to what lies in the result's.
-- So pairs that meet have results that meet.
use mathlib.Core.Bool.{cond}
use lib.Dec.{T, T_not}
use Rattle.toolbox_theory.proofs.Tests.{by_test}
use Rattle.exact_theory.specs.Fraction.{Fraction, le_q, ◌≤q◌, ◌<q◌, ◌+q◌, ◌-q◌, ◌*q◌, ◌/q◌, zero_q, max_q}
use Rattle.exact_theory.specs.Pair.{Pair, ◌∈◌, Meets, AboveZero, exactly, ◌+p◌, ◌-p◌, span4, ◌*p◌, ◌/p◌}
use Rattle.exact_theory.specs.Pair.{hull, reaches_up_to, reaches_above, branch}
use Rattle.exact_theory.proofs.FractionLaws.{≤q_refl, ≤q_trans, <q-≤q_trans, ≤q-<q_trans, mul_above, min_has}
use Rattle.exact_theory.proofs.FractionLaws.{add_mono, sub_mono, Between, upward, downward, mul_between_left}
use Rattle.exact_theory.proofs.FractionLaws.{mul_between_right, between_low, between_high, recip_anti, min_left}
use Rattle.exact_theory.proofs.FractionLaws.{min_right, max_left, max_right, max_has}

-- the low end is at most the high end, as in every pair of a formula that is `Defined`
pub record Proper (P : Pair) : Type 0 where
  pub ordered : P.low ≤q P.high

-- ---- points of one pair

pub in_exactly : (x : Fraction) → x ∈ exactly x
unfolding exactly
in_exactly x = record { from = ≤q_refl x; to = ≤q_refl x }

pub in_proper : {x : Fraction} {P : Pair} → x ∈ P → Proper P
in_proper h = record { ordered = ≤q_trans h.from h.to }

pub low_in : {P : Pair} → Proper P → P.low ∈ P
low_in {P} p = record { from = ≤q_refl P.low; to = p.ordered }

pub high_in : {P : Pair} → Proper P → P.high ∈ P
high_in {P} p = record { from = p.ordered; to = ≤q_refl P.high }

pub in_add : {x y : Fraction} {P Q : Pair} → x ∈ P → y ∈ Q → x +q y ∈ P +p Q
unfolding ◌+p◌
in_add h k = record { from = add_mono h.from k.from; to = add_mono h.to k.to }

pub in_sub : {x y : Fraction} {P Q : Pair} → x ∈ P → y ∈ Q → x -q y ∈ P -p Q
unfolding ◌-p◌
in_sub h k = record { from = sub_mono h.from k.to; to = sub_mono h.to k.from }

pub in_hull_left : {x : Fraction} {P : Pair} (Q : Pair) → x ∈ P → x ∈ hull P Q
unfolding hull
in_hull_left Q h = record { from = ≤q_trans (min_left _ _) h.from; to = ≤q_trans h.to (max_left _ _) }

pub in_hull_right : {x : Fraction} (P : Pair) {Q : Pair} → x ∈ Q → x ∈ hull P Q
unfolding hull
in_hull_right P h = record { from = ≤q_trans (min_right _ _) h.from; to = ≤q_trans h.to (max_right _ _) }

-- what holds of the four that are spanned holds of both ends
pub span_has : {a b c d : Fraction} (P : Fraction → Type 0) → P a → P b → P c → P d →
    P (span4 a b c d).low × P (span4 a b c d).high
unfolding span4
span_has P a b c d = (min_has P (min_has P a b) (min_has P c d), max_has P (max_has P a b) (max_has P c d))

-- what lies between points of two pairs lies in what spans them
between_in : {a b z : Fraction} {P Q : Pair} → Between a b z → a ∈ P → b ∈ Q → z ∈ hull P Q
between_in {P = P} {Q} g h k =
    let left = in_hull_left Q h in
    let right = in_hull_right P k in
    record { from = between_low g left.from right.from; to = between_high g left.to right.to }

-- x from a to b, and y from c to d or from d to c: x y is among the four products
in_span : {a b c d x y : Fraction} → Between a b x → Between c d y →
    x *q y ∈ span4 (a *q c) (a *q d) (b *q c) (b *q d)
unfolding span4 hull exactly
in_span {a} {b} {c} {d} {x} {y} h k =
    between_in (mul_between_left y h) (between_in (mul_between_right a k) (in_exactly (a *q c)) (in_exactly (a *q d)))
    (between_in (mul_between_right b k) (in_exactly (b *q c)) (in_exactly (b *q d)))

in_between : {x : Fraction} {P : Pair} → x ∈ P → Between P.low P.high x
in_between h = upward h.from h.to

pub in_mul : {x y : Fraction} {P Q : Pair} → x ∈ P → y ∈ Q → x *q y ∈ P *p Q
unfolding ◌*p◌
in_mul h k = in_span (in_between h) (in_between k)

pub in_div : {x y : Fraction} {P Q : Pair} → AboveZero Q → x ∈ P → y ∈ Q → x /q y ∈ P /p Q
unfolding ◌/p◌ ◌/q◌
in_div z h k =
    in_span (in_between h)
    (downward (recip_anti (<q-≤q_trans z.above k.from) k.to) (recip_anti z.above k.from))

-- ---- branches

-- a branch is reached if points of the compared pairs meet its condition
pub reached_up_to : {x y : Fraction} {P Q : Pair} → x ∈ P → y ∈ Q → x ≤q y → T (reaches_up_to P Q)
unfolding reaches_up_to
reached_up_to h k g = (≤q_trans h.from (≤q_trans g k.to)).le

pub reached_above : {x y : Fraction} {P Q : Pair} → x ∈ P → y ∈ Q → y <q x → T (reaches_above P Q)
unfolding reaches_above
reached_above h k g = (<q-≤q_trans (≤q-<q_trans k.from g) h.to).lt

-- and only then
pub up_to_reached : {P Q : Pair} → Proper P → Proper Q → T (reaches_up_to P Q) →
    (x : Fraction) × (y : Fraction) × (x ∈ P) × (y ∈ Q) × (x ≤q y)
unfolding reaches_up_to
up_to_reached {P} {Q} p q t = (P.low, Q.high, low_in p, high_in q, record { le = t })

pub above_reached : {P Q : Pair} → Proper P → Proper Q → T (reaches_above P Q) →
    (x : Fraction) × (y : Fraction) × (x ∈ P) × (y ∈ Q) × (y <q x)
unfolding reaches_above
above_reached {P} {Q} p q t = (P.high, Q.low, high_in p, low_in q, record { lt = t })

-- what holds of A and of what spans both holds of the branch where A is reached, and so for B
module _ (P Q A B : Pair) (K : Pair → Type 0) where
  pub branch_first : T (reaches_up_to P Q) → K A → K (hull A B) → K (branch P Q A B)
  unfolding branch
  branch_first t a h =
      by_test (reaches_up_to P Q) K (λ c. by_test (reaches_above P Q) K (λ d. h) (λ d. a))
      (λ c. absurd (T_not (reaches_up_to P Q) c t))

  pub branch_second : T (reaches_above P Q) → K B → K (hull A B) → K (branch P Q A B)
  unfolding branch
  branch_second t b h =
      by_test (reaches_up_to P Q) K
      (λ c. by_test (reaches_above P Q) K (λ d. h) (λ d. absurd (T_not (reaches_above P Q) d t))) (λ c. b)

-- z where x is up to y, else w: only a branch that is reached need hold its point
pub in_branch : {x y z w : Fraction} {P Q A B : Pair} → x ∈ P → y ∈ Q →
    (T (reaches_up_to P Q) → z ∈ A) → (T (reaches_above P Q) → w ∈ B) → cond (le_q x y) z w ∈ branch P Q A B
in_branch {x} {y} {z} {w} {P} {Q} {A} {B} h k i j =
    by_test (le_q x y) (λ v. v ∈ branch P Q A B)
    (λ c. let t = reached_up_to h k (record { le = c }) in
    branch_first P Q A B (λ H. z ∈ H) t (i t) (in_hull_left B (i t)))
    (λ c. let t = reached_above h k (record { lt = c }) in
    branch_second P Q A B (λ H. w ∈ H) t (j t) (in_hull_right A (j t)))

-- ---- pairs that meet

-- proper pairs meet where neither lies above the other
pub ends_meet : {P Q : Pair} → Proper P → Proper Q → P.low ≤q Q.high → Q.low ≤q P.high → Meets P Q
ends_meet {P} {Q} p q h k = record {
  point = max_q P.low Q.low;
  left = record { from = max_left _ _; to = max_has (λ m. m ≤q P.high) p.ordered k };
  right = record { from = max_right _ _; to = max_has (λ m. m ≤q Q.high) h q.ordered };
}

-- ---- products of what is above zero

pub above_mul : {P Q : Pair} → AboveZero P → AboveZero Q → Proper P → Proper Q → AboveZero (P *p Q)
unfolding ◌*p◌
above_mul z y p q =
    let a = <q-≤q_trans z.above p.ordered in
    let b = <q-≤q_trans y.above q.ordered in
    let s =
    span_has (λ m. zero_q <q m) (mul_above z.above y.above) (mul_above z.above b) (mul_above a y.above)
    (mul_above a b) in
    record { above = s.0 }
