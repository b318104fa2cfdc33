-- What a binary search of numbers that rise finds, by how many are below a number and whether it is among them.
use mathlib.Core.Path.{◌≡◌, refl}
use mathlib.Core.Bool.{true, false}
use mathlib.Core.List.{List, [], ◌∷◌}
use Prim.Native.Nat.{ℕ, zero, suc, ◌≤◌, ◌<◌}
use native.Mathlib.Decide.{dec_lt}
use native.Mathlib.Omega.{arith}
use borrow.Author.Tests.{ne_eqb, lt-ltb, le-ltb}
use lib.ListN.{length, get_or}
use Rattle.std.specs.List.{AllPairs}
use Rattle.std.specs.List.Sorted.{IsStrictlyIncreasing, IsBinarySearchResult}
use Rattle.std.specs.Ordering.{nat_cmp}
use Rattle.std.proofs.Common.{Ok, Err}
use Rattle.std.proofs.lemmas.List.Sorted.{searched}
use Rattle.std.proofs.lemmas.List.Kept.{AllPairs-from_increasing}
use Rattle.toolbox_theory.specs.Lists.{among, count_below}
use Rattle.toolbox_theory.proofs.ListLaws.{among_at}

-- those before place n are below x, and the others are not
count_of : (l : List ℕ) (x n : ℕ) → n ≤ length l → ((k : ℕ) → k < n → get_or l k 0 < x) →
    ((k : ℕ) → n ≤ k → k < length l → x ≤ get_or l k 0) → count_below l x ≡ n
unfolding count_below
count_of [] x n h low high = omega arith
count_of (y ∷ ys) x zero h low high =
    let rest =
    count_of ys x 0 (omega arith) (λ k q. absurd (omega arith))
    (λ k p q. high (suc k) (omega arith) (omega arith)) in
    rw (le-ltb y x (high 0 (omega arith) (omega arith))) (omega (arith, rest))
count_of (y ∷ ys) x (suc n) h low high =
    let rest =
    count_of ys x n (omega arith) (λ k q. low (suc k) (omega arith))
    (λ k p q. high (suc k) (omega arith) (omega arith)) in
    rw (lt-ltb y x (low 0 (omega arith))) (omega (arith, rest))

none_of : (l : List ℕ) (x : ℕ) → ((k : ℕ) → k < length l → x ≡ get_or l k 0 → ⊥) → among l x ≡ false
none_of [] x other = refl
none_of (y ∷ ys) x other =
    rw (ne_eqb x y (other 0 (omega arith))) (none_of ys x (λ k h. other (suc k) (omega arith)))

pub record Listed (l : List ℕ) (x k : ℕ) : Type 0 where
  pub listed : among l x ≡ true
  pub count : count_below l x ≡ k

pub record Missing (l : List ℕ) (x n : ℕ) : Type 0 where
  pub not_listed : among l x ≡ false
  pub count : count_below l x ≡ n

module _ (l : List ℕ) (x : ℕ) (up : IsStrictlyIncreasing l) where
  pairs : AllPairs (λ y z. y < z) l
  pairs = AllPairs-from_increasing l up

  in_order : (i j : ℕ) → i ≤ j → j < length l → get_or l i 0 ≤ get_or l j 0
  in_order i j p q = elim (dec_lt i j) [
    | yes r ↦ omega (arith, pairs i j 0 r q)
    | no r ↦ let same : i ≡ j = omega arith in rw same (omega arith)
  ]

  pub found : (k : ℕ) → IsBinarySearchResult (λ y. nat_cmp y x) l (Ok k) → Listed l x k
  found k is =
      let s = searched l x (Ok k) is in_order in
      let e = s.1 in
      record {
        listed = rw (← e) (among_at l k s.0);
        count =
            count_of l x k (omega (arith, s.0)) (λ j q. rw (← e) (pairs j k 0 q s.0))
            (λ j p q. rw (← e) (in_order k j p q));
      }

  pub missing : (n : ℕ) → IsBinarySearchResult (λ y. nat_cmp y x) l (Err n) → Missing l x n
  missing n is =
      let s = searched l x (Err n) is in_order in
      record {
        not_listed =
            none_of l x
            (λ k q e. elim (dec_lt k n) [
              | yes r ↦ omega (arith, e, s.1 k r)
              | no r ↦ omega (arith, e, s.2 k (omega arith) q)
            ]);
        count = count_of l x n s.0 s.1 (λ k p q. omega (arith, s.2 k p q));
      }
