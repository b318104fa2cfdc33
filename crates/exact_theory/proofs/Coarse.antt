-- A pair that holds the pair of a formula at every fineness and is quickly worked out: logarithms and roots have wide
-- bounds instead of sums, and a branch spans both.
use mathlib.Core.Bool.{Bool, true, false, cond}
use Prim.Native.Nat.{ℕ, zero, suc, ◌*◌, ◌-◌, ◌≤◌, ◌<◌}
use native.Mathlib.Nat.{le_of_lt, le_trans, mul-le-mul_right}
use native.Mathlib.Decide.{dec_le}
use native.Mathlib.Omega.{arith}
use borrow.Author.Tests.{le-leb, lt-leb}
use lib.Dec.{T, leb, leb→le}
use lib.IntN.{pos}
use Rattle.toolbox_theory.proofs.Tests.{and_left, and_right}
use Rattle.exact_theory.specs.Fraction.{Fraction, ◌over◌, ◌≤q◌, neg_q}
use Rattle.exact_theory.specs.Pair.{Pair, ◌∈◌, AboveZero, exactly, ◌+p◌, ◌-p◌, span4, ◌*p◌, ◌/p◌, hull}
use Rattle.exact_theory.specs.Pair.{reaches_up_to, reaches_above, branch}
use Rattle.exact_theory.specs.Logarithm.{ln_pair}
use Rattle.exact_theory.specs.Root.{whole_root, root_values, root_pair}
use Rattle.exact_theory.specs.Formula.{Formula, stated, ln, root, ◌⊕◌, ◌⊖◌, ◌⊗◌, ◌⊘◌, if_up_to, eval}
use Rattle.exact_theory.proofs.FractionLaws.{≤q_trans, neg_anti, min_has, max_has}
use Rattle.exact_theory.proofs.PairLaws.{Proper, span_has}
use Rattle.exact_theory.proofs.PairLaws.{in_exactly, in_add, in_sub, in_mul, in_div, in_hull_left, in_hull_right}
use Rattle.exact_theory.proofs.Harmonic.{over-≤}
use Rattle.exact_theory.proofs.LogarithmLaws.{lower_least, upper_most, ln_proper, ln_flipped}
use Rattle.exact_theory.proofs.RootLaws.{whole_root_is, root_below, values_proper}
use Rattle.exact_theory.proofs.DefinedTest.{sound}

-- from (a − b)/a to (a − b)/b
unfoldable pub gap : ℕ → ℕ → Pair
gap a b = record { low = pos (a - b) over a; high = pos (a - b) over b }

unfoldable pub negated : Pair → Pair
negated P = record { low = neg_q P.high; high = neg_q P.low }

unfoldable pub coarse : Formula → Pair
coarse (stated x) = exactly x
coarse (ln a b) = cond (leb b a) (gap a b) (negated (gap b a))
coarse (root X) = record { low = pos 0 over 1; high = pos (suc X) over 1 }
coarse (e ⊕ f) = coarse e +p coarse f
coarse (e ⊖ f) = coarse e -p coarse f
coarse (e ⊗ f) = coarse e *p coarse f
coarse (e ⊘ f) = coarse e /p coarse f
coarse (if_up_to e f A B) = hull (coarse A) (coarse B)

-- both ends of P lie in Q
pub record Inside (P Q : Pair) : Type 0 where
  pub low : P.low ∈ Q
  pub high : P.high ∈ Q

-- ---- the ends of one operation

inside_of : {P Q : Pair} → Proper P → Q.low ≤q P.low → P.high ≤q Q.high → Inside P Q
inside_of p h k = record {
  low = record { from = h; to = ≤q_trans p.ordered k };
  high = record { from = ≤q_trans h p.ordered; to = k };
}

span_inside : {a b c d : Fraction} {Q : Pair} → a ∈ Q → b ∈ Q → c ∈ Q → d ∈ Q → Inside (span4 a b c d) Q
span_inside {Q = Q} h i j k = let s = span_has (λ x. x ∈ Q) h i j k in record { low = s.0; high = s.1 }

module _ {A B C D : Pair} where
  add_inside : Inside A C → Inside B D → Inside (A +p B) (C +p D)
  unfolding ◌+p◌
  add_inside h k = record { low = in_add h.low k.low; high = in_add h.high k.high }

  sub_inside : Inside A C → Inside B D → Inside (A -p B) (C -p D)
  unfolding ◌-p◌
  sub_inside h k = record { low = in_sub h.low k.high; high = in_sub h.high k.low }

  mul_inside : Inside A C → Inside B D → Inside (A *p B) (C *p D)
  unfolding ◌*p◌
  mul_inside h k = search (span_inside, in_mul)

  div_inside : AboveZero D → Inside A C → Inside B D → Inside (A /p B) (C /p D)
  unfolding ◌/p◌
  div_inside z h k = search (span_inside, in_div)

branch_inside : (c d : Bool) {A B C D : Pair} → Inside A C → Inside B D →
    Inside (cond c (cond d (hull A B) A) B) (hull C D)
unfolding hull
branch_inside true true {C = C} {D} h k = record {
  low = min_has (λ x. x ∈ hull C D) (in_hull_left _ h.low) (in_hull_right _ k.low);
  high = max_has (λ x. x ∈ hull C D) (in_hull_left _ h.high) (in_hull_right _ k.high);
}
branch_inside true false h k = record { low = in_hull_left _ h.low; high = in_hull_left _ h.high }
branch_inside false d h k = record { low = in_hull_right _ k.low; high = in_hull_right _ k.high }

-- ---- logarithms and roots

ordered_inside : {a b n : ℕ} → 1 ≤ b → b ≤ a → 1 ≤ n → Inside (ln_pair n a b) (gap a b)
unfolding ln_pair gap
ordered_inside {a} {b} {n} hb hab g =
    inside_of (ln_proper (le_trans hb hab) hb n g) (simp (le-leb b a hab) (lower_least hb hab g))
    (simp (le-leb b a hab) (upper_most hb hab g))

in_negated : {x : Fraction} {P : Pair} → x ∈ P → neg_q x ∈ negated P
unfolding negated
in_negated h = record { from = neg_anti h.to; to = neg_anti h.from }

flipped : {P Q : Pair} → Inside P Q → Inside (negated P) (negated Q)
unfolding negated
flipped h = record { low = in_negated h.high; high = in_negated h.low }

ln_inside : {a b n : ℕ} → 1 ≤ a → 1 ≤ b → 1 ≤ n → Inside (ln_pair n a b) (coarse (ln a b))
unfolding coarse negated
ln_inside {a} {b} {n} ha hb g = elim (dec_le b a) [
  | yes h ↦ simp (le-leb b a h) (ordered_inside hb h g)
  | no h ↦ let l : a < b = omega arith in
      simp (lt-leb b a l) (rw (ln_flipped l n) (flipped (ordered_inside ha (le_of_lt l) g)))
]

square_least : (X : ℕ) → X ≤ X * X
square_least zero = omega arith
square_least (suc X) = omega arith

root_inside : (n X : ℕ) → 1 ≤ n → Inside (root_pair n X) (coarse (root X))
unfolding root_pair root_values coarse
root_inside n X g =
    let r = whole_root_is (X * (n * n)) in
    let few = root_below (suc (X * n)) r (omega (arith, mul-le-mul_right (n * n) (square_least X))) in
    inside_of (values_proper n _ g) (over-≤ 0 (whole_root (X * (n * n))) (omega arith) g (omega arith))
    (over-≤ (suc (whole_root (X * (n * n)))) (suc X) g (omega arith) (omega arith))

-- ---- the law

module _ {n : ℕ} (g : 1 ≤ n) where
  pub coarse_holds : (e : Formula) → T (sound coarse e) → Inside (eval n e) (coarse e)
  unfolding sound eval coarse branch exactly
  coarse_holds (stated x) t = record { low = in_exactly x; high = in_exactly x }
  coarse_holds (ln a b) t = ln_inside (search (and_left, leb→le)) (search (and_right, leb→le)) g
  coarse_holds (root X) t = root_inside n X g
  coarse_holds (e ⊕ f) t = add_inside (search (and_left, coarse_holds e)) (search (and_right, coarse_holds f))
  coarse_holds (e ⊖ f) t = sub_inside (search (and_left, coarse_holds e)) (search (and_right, coarse_holds f))
  coarse_holds (e ⊗ f) t = mul_inside (search (and_left, coarse_holds e)) (search (and_right, coarse_holds f))
  coarse_holds (e ⊘ f) t =
      div_inside (search and_right) (search (and_left, coarse_holds e)) (search (and_left, and_right, coarse_holds f))
  coarse_holds (if_up_to e f A B) t =
      branch_inside (reaches_up_to (eval n e) (eval n f)) (reaches_above (eval n e) (eval n f))
      (search (and_left, and_right, coarse_holds A)) (search (and_right, coarse_holds B))
