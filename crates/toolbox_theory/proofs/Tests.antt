-- Tests that antt computes over a whole table or range, and what they show of each entry.
use mathlib.Core.Path.{◌≡◌, refl}
use mathlib.Core.Bool.{Bool, true, false, not, cond, ◌&&◌}
use mathlib.Core.List.{List, [], ◌∷◌}
use Prim.Native.Nat.{ℕ, zero, suc, ◌+◌, ◌<◌, ◌≤◌}
use native.Mathlib.Nat.{le_of_suc-le-suc, not-suc-le-zero, add-zero, add-suc, suc-add}
use native.Mathlib.Decide.{dec_lt}
use native.Mathlib.Omega.{arith}
use lib.Dec.{T, leb, leb→le}
use lib.ListN.{length, get_or}

pub is_true : (x : Bool) → T x → x ≡ true
is_true true t = refl
is_true false t = absurd t

pub and_left : (x y : Bool) → T (x && y) → T x
and_left true y t = tt
and_left false y t = t

pub and_right : (x y : Bool) → T (x && y) → T y
and_right true y t = t
and_right false y t = absurd t

pub both : (x y : Bool) → T (x && y) → T x × T y
both x y t = (and_left x y t, and_right x y t)

-- what each half shows, both show
pub each : {A B : Type 0} (x y : Bool) → (T x → A) → (T y → B) → T (x && y) → A × B
each x y f g t = (f (and_left x y t), g (and_right x y t))

-- what a test picks has a property, if what it picks in either case has it
pub by_test : {A : Type 0} {x y : A} (b : Bool) (K : A → Type 0) → (T b → K x) → (T (not b) → K y) → K (cond b x y)
by_test true K f g = f tt
by_test false K f g = g tt

-- ---- a table, entry by entry

module _ {A : Type 0} (test : ℕ → A → Bool) where
  -- each entry passes its test, at its place counted from i
  abbrev pub every : ℕ → List A → Bool
  every i [] = true
  every i (x ∷ xs) = test i x && every (suc i) xs

  pub every_at : (d : A) (i : ℕ) (xs : List A) → T (every i xs) → (k : ℕ) → k < length xs →
      T (test (i + k) (get_or xs k d))
  every_at d i [] t k h = absurd (not-suc-le-zero h)
  every_at d i (x ∷ xs) t zero h = rw add-zero (and_left (test i x) (every (suc i) xs) t)
  every_at d i (x ∷ xs) t (suc k) h =
      rw (add-suc, ← suc-add i k)
      (every_at d (suc i) xs (and_right (test i x) (every (suc i) xs) t) k (le_of_suc-le-suc h))

-- ---- all numbers below n

unfoldable pub all_below : ℕ → (ℕ → Bool) → Bool
all_below zero p = true
all_below (suc n) p = p n && all_below n p

pub below : (n : ℕ) (p : ℕ → Bool) → T (all_below n p) → (k : ℕ) → k < n → T (p k)
unfolding all_below
below zero p t k h = absurd (not-suc-le-zero h)
below (suc n) p t k h =
    elim (dec_lt k n) [
      | yes l ↦ below n p (and_right (p n) (all_below n p) t) k l
      | no l ↦ let e : k ≡ n = omega arith in rw e (and_left (p n) (all_below n p) t)
    ]

-- ---- numbers in order, pair by pair

abbrev pub all_le : List (ℕ × ℕ) → Bool
all_le [] = true
all_le (p ∷ ps) = leb p.0 p.1 && all_le ps

abbrev pub AllLe : List (ℕ × ℕ) → Type 0
AllLe [] = Unit {0}
AllLe (p ∷ ps) = (p.0 ≤ p.1) × AllLe ps

pub all_le_lem : (ps : List (ℕ × ℕ)) → T (all_le ps) → AllLe ps
all_le_lem [] t = tt
all_le_lem (p ∷ ps) t = each (leb p.0 p.1) (all_le ps) (leb→le p.0 p.1) (all_le_lem ps) t

-- numbers that are equal, pair by pair, are in order both ways
abbrev pub equal : List (ℕ × ℕ) → List (ℕ × ℕ)
equal [] = []
equal (p ∷ ps) = p ∷ (p.1, p.0) ∷ equal ps

-- ---- a table whose rows are within limits, each limit two numbers in order

module _ {A : Type 0} (limits : A → List (ℕ × ℕ)) where
  abbrev pub WithinLimits : List A → Type 0
  WithinLimits rows = T (every (λ k r. all_le (limits r)) 0 rows)

  pub row_within : (none : A) (rows : List A) → WithinLimits rows → (k : ℕ) → k < length rows →
      AllLe (limits (get_or rows k none))
  row_within none rows t k h =
      all_le_lem (limits (get_or rows k none)) (every_at (λ k r. all_le (limits r)) none 0 rows t k h)
