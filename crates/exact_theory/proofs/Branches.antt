-- One branch within the other is three branches, where the thresholds are in order.
use mathlib.Core.Path.{◌≡◌, refl}
use mathlib.Core.Bool.{not}
use Prim.Native.Nat.{ℕ, ◌≤◌}
use lib.Dec.{T}
use Rattle.toolbox_theory.proofs.Tests.{by_test}
use Rattle.exact_theory.specs.Fraction.{Fraction, ◌≤q◌, ◌<q◌}
use Rattle.exact_theory.specs.Pair.{Pair, ◌∈◌, hull, reaches_up_to, reaches_above, branch}
use Rattle.exact_theory.specs.Formula.{Formula, if_up_to, eval, Defined}
use Rattle.exact_theory.specs.Branches.{Reached, first, second, third, SpansReached, ThreeBranches}
use Rattle.exact_theory.proofs.FractionLaws.{≤q_refl, ≤q_trans, ≤q-<q_trans, <q-≤q_trans, min_left}
use Rattle.exact_theory.proofs.FractionLaws.{min_right, max_left, max_right, min_has, max_has}
use Rattle.exact_theory.proofs.PairLaws.{Proper, low_in, high_in, reached_up_to, reached_above, branch_first}
use Rattle.exact_theory.proofs.PairLaws.{up_to_reached, above_reached, branch_second}
use Rattle.exact_theory.proofs.Points.{eval_proper}

-- ---- two branches

-- A lies within H
record Within (A H : Pair) : Type 0 where
  low : H.low ≤q A.low
  high : A.high ≤q H.high

within_trans : {A B C : Pair} → Within A B → Within B C → Within A C
within_trans h k = record { low = ≤q_trans k.low h.low; high = ≤q_trans h.high k.high }

module _ (P Q A B : Pair) where
  within_first : T (reaches_up_to P Q) → Within A (branch P Q A B)
  unfolding hull
  within_first t = branch_first P Q A B (Within A) t (search ≤q_refl) (search (min_left, max_left))

  within_second : T (reaches_above P Q) → Within B (branch P Q A B)
  unfolding hull
  within_second t = branch_second P Q A B (Within B) t (search ≤q_refl) (search (min_right, max_right))

-- what is nowhere up to the other is above it
else_above : {P Q : Pair} → Proper P → Proper Q → T (not (reaches_up_to P Q)) → T (reaches_above P Q)
unfolding reaches_up_to reaches_above
else_above {P} {Q} p q t =
    let h : Q.high <q P.low = record { lt = t } in
    (<q-≤q_trans (≤q-<q_trans q.ordered h) p.ordered).lt

-- what holds of an end of A where A is reached and of B's where B is, and then of the end of what spans both
end_has : {P Q : Pair} (A B : Pair) (end : Pair → Fraction) (K : Fraction → Type 0) → Proper P → Proper Q →
    (K (end A) → K (end B) → K (end (hull A B))) → (T (reaches_up_to P Q) → K (end A)) →
    (T (reaches_above P Q) → K (end B)) → K (end (branch P Q A B))
unfolding branch
end_has {P} {Q} A B end K p q both a b =
    by_test (reaches_up_to P Q) (λ H. K (end H))
    (λ c. by_test (reaches_above P Q) (λ H. K (end H)) (λ d. both (a c) (b d)) (λ d. a c)) (λ c. b (else_above p q c))

-- ---- three branches

-- the thresholds are defined, and their pairs in order: the low end of s is at most that of t, and below its high end
pub record InOrder (n : ℕ) (s t : Formula) : Type 0 where
  pub first_defined : Defined n s
  pub second_defined : Defined n t
  pub low : (eval n s).low ≤q (eval n t).low
  pub high : (eval n s).low <q (eval n t).high

module _ (n : ℕ) (p s t A B C : Formula) (g : 1 ≤ n) (o : InOrder n s t) where
  -- the pairs that are compared
  abbrev P : Pair
  P = eval n p

  abbrev S : Pair
  S = eval n s

  abbrev U : Pair
  U = eval n t

  abbrev reaches : Formula → Type 0
  reaches = Reached n p s t A B C

  -- one branch within the other
  abbrev nested : Formula
  nested = if_up_to p s A (if_up_to p t B C)

  above_both : {x z : Fraction} → x ∈ P → z ∈ U → z <q x → T (reaches_above P S)
  unfolding reaches_above
  above_both h k l = (≤q-<q_trans o.low (<q-≤q_trans (≤q-<q_trans k.from l) h.to)).lt

  module _ (d : Defined n p) where
    proper_p : Proper P
    proper_p = eval_proper g p d

    proper_s : Proper S
    proper_s = eval_proper g s o.first_defined

    proper_t : Proper U
    proper_t = eval_proper g t o.second_defined

    to_first : T (reaches_up_to P S) → reaches A
    to_first h = let r = up_to_reached proper_p proper_s h in first r.2 r.3 r.4

    to_second : T (reaches_above P S) → T (reaches_up_to P U) → reaches B
    unfolding reaches_up_to reaches_above
    to_second h k =
        second (record { from = min_has (λ m. P.low ≤q m) proper_p.ordered (record { le = k }); to = min_left _ _ })
        (low_in proper_s) (high_in proper_t) (min_has (λ m. S.low <q m) (record { lt = h }) o.high) (min_right _ _)

    to_third : T (reaches_above P U) → reaches C
    to_third h = let r = above_reached proper_p proper_t h in third r.2 r.3 r.4

    -- an end of the whole is that of a branch that is reached
    end_reached : (end : Pair → Fraction) →
        ((K : Fraction → Type 0) (X Y : Pair) → K (end X) → K (end Y) → K (end (hull X Y))) →
        (f : Formula) × reaches f × (end (eval n nested) ≡ end (eval n f))
    unfolding eval
    end_reached end both =
        let K : Fraction → Type 0 = λ z. (f : Formula) × reaches f × (z ≡ end (eval n f)) in
        end_has (eval n A) _ end K proper_p proper_s (both K _ _) (λ h. (A, to_first h, refl))
        (λ h. end_has (eval n B) _ end K proper_p proper_t (both K _ _) (λ k. (B, to_second h k, refl))
        (λ k. (C, to_third k, refl)))

    within : (f : Formula) → reaches f → Within (eval n f) (eval n nested)
    unfolding eval
    within f (first h k l) = within_first P S _ _ (reached_up_to h k l)
    within f (second h k m l u) =
        within_trans (within_first P U _ _ (reached_up_to h m u)) (within_second P S _ _ (reached_above h k l))
    within f (third h m l) =
        within_trans (within_second P U _ _ (reached_above h m l)) (within_second P S _ _ (above_both h m l))

    spans_reached : SpansReached n p s t A B C (eval n nested)
    unfolding hull
    spans_reached = record {
      least = λ f r. (within f r).low;
      greatest = λ f r. (within f r).high;
      low_reached = end_reached (λ Q. Q.low) (λ K X Y. min_has K);
      high_reached = end_reached (λ Q. Q.high) (λ K X Y. max_has K);
    }

    defined : ((f : Formula) → reaches f → Defined n f) → Defined n nested
    unfolding Defined
    defined h =
        let later : T (reaches_above P S) → Defined n (if_up_to p t B C) = λ r.
        (d, o.second_defined, λ u. h B (to_second r u), λ u. h C (to_third u)) in
        (d, o.first_defined, λ r. h A (to_first r), later)

  only : Defined n nested → (f : Formula) → reaches f → Defined n f
  unfolding Defined
  only d f (first h k l) = d.2 (reached_up_to h k l)
  only d f (second h k m l u) = (d.3 (reached_above h k l)).2 (reached_up_to h m u)
  only d f (third h m l) = (d.3 (above_both h m l)).3 (reached_above h m l)

  -- at fineness n, with thresholds that are defined and in order
  pub three_branches : ThreeBranches n p s t A B C nested
  unfolding Defined
  three_branches = record { spans = spans_reached; defined = defined; only = λ d. (d.0, only d) }
