-- The greatest end among the accepted of the first n places, and the first place that has it.
use mathlib.Core.Path.{◌≡◌, refl, sym, subst}
use mathlib.Core.Bool.{not}
use mathlib.Core.Logic.{⊎_elim}
use mathlib.Core.List.{List}
use Prim.Native.Nat.{ℕ, zero, suc, ◌<◌}
use native.Mathlib.Nat.{eq-or-lt_of_le, le_of_suc-le-suc}
use native.Mathlib.Omega.{arith}
use borrow.Author.Tests.{eq-eqb}
use lib.Dec.{T, eqb, eqb→eq}
use lib.IntN.{ℤ, pos}
use lib.ListN.{get_or}
use lib.Signed.{◌≤ℤ◌, ◌<ℤ◌, lt_z_yes, lt_z_no, ≤ℤ_refl}
use Rattle.std.specs.Prelude.{Option, Some, None, IfSome, IsSomeAnd, MatchOption}
use Rattle.toolbox_theory.proofs.Tests.{both, by_test}
use Rattle.toolbox_theory.proofs.Whole.{≤ℤ-<ℤ_trans, <ℤ-≤ℤ}
use Rattle.governing_theory.specs.declared.Greatest.{Greatest}
use Rattle.governing_theory.specs.Evaluation.{leads, with_place, greatest_of}

-- what it means that a place takes the lead, and that it does not
lead : (best : Option Greatest) (number : ℕ) (end : ℤ) → T (leads best number end) →
    (number ≡ 0) × IfSome best (λ b. b.end <ℤ end)
lead None number end t = (eqb→eq number 0 (both (eqb number 0) _ t).0, tt)
lead (Some b) number end t = let h = both (eqb number 0) _ t in (eqb→eq number 0 h.0, lt_z_yes h.1)

behind : (best : Option Greatest) (number : ℕ) (end : ℤ) → T (not (leads best number end)) → number ≡ 0 →
    IsSomeAnd best (λ b. end ≤ℤ b.end)
behind None number end t accepted = absurd (rw (eq-eqb number 0 accepted) at t)
behind (Some b) number end t accepted = lt_z_no (rw (eq-eqb number 0 accepted) at t)

module _ (numbers : List ℕ) (ends : List ℤ) where
  abbrev number : ℕ → ℕ
  number i = get_or numbers i 0

  abbrev end : ℕ → ℤ
  end i = get_or ends i (pos 0)

  -- place i of the first n is accepted
  abbrev Among : ℕ → ℕ → Type 0
  Among n i = (i < n) × (number i ≡ 0)

  -- place k leads the first n
  pub record Leads (n : ℕ) (best : Greatest) (k : ℕ) : Type 0 where
    pub position : best.position ≡ suc k
    pub here : best.end ≡ end k
    pub accepted : Among n k
    pub greatest : (i : ℕ) → Among n i → end i ≤ℤ end k
    pub first : (i : ℕ) → i < k → Among n i → end i <ℤ end k

  -- or none of them is accepted
  abbrev pub Led : ℕ → Option Greatest → Type 0
  Led n best = MatchOption best ((i : ℕ) → Among n i → ⊥) (λ b. (k : ℕ) × Leads n b k)

  -- what holds of each accepted place before n, and of n if it is accepted, holds of each up to n
  extend : (P : ℕ → Type 0) {n : ℕ} → ((i : ℕ) → Among n i → P i) → (number n ≡ 0 → P n) →
      (i : ℕ) → Among (suc n) i → P i
  extend P {n} before here i (within, accepted) =
      ⊎_elim
      (λ e. subst P (sym e) (here (subst (λ (j : ℕ). number j ≡ 0) e accepted)))
      (λ h. before i (h, accepted))
      (eq-or-lt_of_le (le_of_suc-le-suc within))

  -- where place n is above all before it, it leads
  takes : {n : ℕ} (best : Option Greatest) → Led n best → IfSome best (λ b. b.end <ℤ end n) →
      (i : ℕ) → Among n i → end i <ℤ end n
  takes None none above i a = absurd (none i a)
  takes (Some b) (k, l) above i a = ≤ℤ-<ℤ_trans (end k) (l.greatest i a) (rw l.here at above)

  taken : {n : ℕ} → number n ≡ 0 → ((i : ℕ) → Among n i → end i <ℤ end n) →
      Led (suc n) (Some (record { position = suc n; end = end n }))
  taken {n} accepted above = (
    n,
    record {
      position = refl;
      here = refl;
      accepted = (omega arith, accepted);
      greatest = extend (λ i. end i ≤ℤ end n) (λ i a. <ℤ-≤ℤ (above i a)) (λ z. ≤ℤ_refl (end n));
      first = λ i before a. above i (before, a.1);
    },
  )

  -- where it is refused, or not above the leading one, that leads on
  stays : (n : ℕ) (best : Option Greatest) → Led n best →
      (number n ≡ 0 → IsSomeAnd best (λ b. end n ≤ℤ b.end)) → Led (suc n) best
  stays n None none at_most = extend (λ i. ⊥) none at_most
  stays n (Some b) (k, l) at_most = (
    k,
    record {
      position = l.position;
      here = l.here;
      accepted = (omega (arith, l.accepted.0), l.accepted.1);
      greatest = extend (λ i. end i ≤ℤ end k) l.greatest (λ z. rw l.here at (at_most z));
      first = λ i before a. l.first i before (omega (arith, l.accepted.0), a.1);
    },
  )

  with_place_lem : (n : ℕ) (best : Option Greatest) → Led n best →
      Led (suc n) (with_place best n (number n) (end n))
  with_place_lem n best l =
      by_test (leads best (number n) (end n)) (Led (suc n))
      (λ t. let h = lead best (number n) (end n) t in taken h.0 (takes best l h.1))
      (λ t. stays n best l (behind best (number n) (end n) t))

  -- one place after the other
  pub led : (n : ℕ) → Led n (greatest_of numbers ends n)
  unfolding greatest_of
  led zero = λ i a. absurd (omega (arith, a.0))
  led (suc n) = with_place_lem n _ (led n)
