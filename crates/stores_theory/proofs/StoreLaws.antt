-- Runs of stores into lent bytes.
use mathlib.Core.Path.{◌≡◌, refl, sym, ap, ◌∙◌}
use mathlib.Core.List.{List, [], ◌∷◌, ◌++◌}
use Prim.Native.Nat.{ℕ, suc, ◌+◌, ◌≤◌}
use native.Mathlib.Numerals.{add-one}
use native.Mathlib.Omega.{arith}
use native.Mathlib.Nat.{add-zero, zero-add, add-suc, suc-add}
use lib.ListN.{length, set, drop, length-append}
use lib.Seq.{sets, sets-eq}
use Rattle.stores_theory.specs.Stores.{Put}

-- one run after another is one run
pub sets_append : (a b l : List ℕ) (i : ℕ) → sets (sets l i a) (i + length a) b ≡ sets l i (a ++ b)
sets_append [] b l i = ap (λ (k : ℕ). sets l k b) (add-zero i)
sets_append (x ∷ a) b l i =
    ap (λ (k : ℕ). sets (sets (set l i x) (suc i) a) k b) (add-suc i (length a) ∙ sym (suc-add i (length a)))
    ∙ sets_append a b (set l i x) (suc i)

-- two stores are a run
pub sets_two : (l : List ℕ) (i a b : ℕ) → set (set l i a) (i + 1) b ≡ sets l i (a ∷ b ∷ [])
sets_two l i a b = rw add-one

-- a run at the front
pub sets_front : (l a : List ℕ) → length a ≤ length l → sets l 0 a ≡ a ++ drop (length a) l
sets_front l a h = rw zero-add at (sets-eq a l 0 (rw zero-add h))

-- ---- the same of a run and the place after it

-- one run after another is one run
pub put_then : {a b c : ℕ} {u v l l1 l2 : List ℕ} → Put a u l b l1 → Put b v l1 c l2 → Put a (u ++ v) l c l2
put_then {a} {u = u} {v} {l} p q = record {
  place = omega (arith, length-append u v);
  bytes = rw (q.bytes, p.bytes, p.place) (sets_append u v l a);
}

-- a store is a run
pub put_byte : (l : List ℕ) (at x : ℕ) → Put at (x ∷ []) l (at + 1) (set l at x)
put_byte l at x = record { place = refl; bytes = refl }

-- and so are two
pub put_two : (l : List ℕ) (at x y : ℕ) → Put at (x ∷ y ∷ []) l (at + 2) (set (set l at x) (at + 1) y)
put_two l at x y = record { place = refl; bytes = sets_two l at x y }
