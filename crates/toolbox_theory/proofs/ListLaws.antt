-- Laws of a search through a list, for any list.
use mathlib.Core.Path.{◌≡◌, refl, sym, ap, ◌∙◌}
use mathlib.Core.Bool.{false≢true, Bool, true, false, ◌&&◌, ◌||◌, cond}
use mathlib.Core.Logic.{◌⊎◌, inl, inr}
use mathlib.Core.List.{List, [], ◌∷◌, map}
use Prim.Native.Nat.{ℕ, zero, suc, ◌+◌, ◌≤◌, ◌<◌}
use native.Mathlib.Decide.{dec_lt}
use native.Mathlib.Omega.{arith}
use Rattle.std.proofs.lemmas.Bool.{or_cases, or_parts, or_right}
use borrow.Author.Tests.{eq-eqb, ne_eqb, eqb-true, lt-ltb, le-ltb}
use lib.Dec.{T, eqb, ltb, leb, leb→le, ltb→lt, eqb→eq}
use Rattle.toolbox_theory.proofs.Tests.{is_true, and_left, and_right, by_test}
use lib.ListN.{length, get_or, take}
use Rattle.toolbox_theory.specs.Lists.{among, place_in, count_below, filter, greatest, least, lookup}

-- x is none of the numbers of a list, as a match has it, after what it has before
abbrev pub Missed : Type 0 → List ℕ → ℕ → Type 0
Missed before [] x = before
Missed before (y ∷ ys) x = Missed (before × (x ≡ y → ⊥)) ys x

pub earlier : (before : Type 0) (l : List ℕ) (x : ℕ) → Missed before l x → before
earlier before [] x m = m
earlier before (y ∷ ys) x m = (earlier (before × (x ≡ y → ⊥)) ys x m).0

pub missed : (before : Type 0) (l : List ℕ) (x : ℕ) → Missed before l x → among l x ≡ false
missed before [] x m = refl
missed before (y ∷ ys) x m =
    rw (ne_eqb x y (earlier (before × (x ≡ y → ⊥)) ys x m).1) (missed (before × (x ≡ y → ⊥)) ys x m)

-- what a test shows of every number of a list, it shows of one that is among them
abbrev pub all : (ℕ → Bool) → List ℕ → Bool
all test [] = true
all test (y ∷ ys) = test y && all test ys

pub all_at : (test : ℕ → Bool) (l : List ℕ) (x : ℕ) → T (all test l) → among l x ≡ true → T (test x)
all_at test [] x t e = absurd (false≢true e)
all_at test (y ∷ ys) x t e = elim (or_cases (eqb x y) (among ys x) e) [
  | inl p ↦ rw (eqb-true x y p) (and_left (test y) (all test ys) t)
  | inr p ↦ all_at test ys x (and_right (test y) (all test ys) t) p
]

-- so a number of a list is at most the greatest
abbrev pub up_to : ℕ → List ℕ → Bool
up_to k l = all (λ y. leb y k) l

pub at_most : (k : ℕ) (l : List ℕ) (x : ℕ) → T (up_to k l) → among l x ≡ true → x ≤ k
at_most k l x t e = leb→le x k (all_at (λ y. leb y k) l x t e)

-- how many are below x, counted one by one
count_suc : (l : List ℕ) (x i : ℕ) → i < length l →
    count_below (take (suc i) l) x ≡ count_below (take i l) x + cond (ltb (get_or l i 0) x) 1 0
unfolding count_below
count_suc [] x i h = absurd (omega arith)
count_suc (y ∷ ys) x zero h = omega arith
count_suc (y ∷ ys) x (suc i) h = omega (arith, count_suc ys x i (omega arith))

-- n of the first i are below x: then so many of the first i + 1
module _ (l : List ℕ) (x i : ℕ) (h : i < length l) {n : ℕ} (e : n ≡ count_below (take i l) x) where
  next : count_below (take (i + 1) l) x ≡ n + cond (ltb (get_or l i 0) x) 1 0
  next = let f : i + 1 ≡ suc i = omega arith in rw (f, e) (count_suc l x i h)

  pub count_one : {r : ℕ} → get_or l i 0 < x → r ≡ n + 1 → r ≡ count_below (take (i + 1) l) x
  count_one p q = q ∙ sym (rw (lt-ltb (get_or l i 0) x p) at next)

  pub count_none : {r : ℕ} → x ≤ get_or l i 0 → r ≡ n → r ≡ count_below (take (i + 1) l) x
  count_none p q = q ∙ omega (arith, rw (le-ltb (get_or l i 0) x p) at next)

pub count_all : (l : List ℕ) (x : ℕ) → count_below (take (length l) l) x ≡ count_below l x
unfolding count_below
count_all [] x = refl
count_all (y ∷ ys) x = ap (λ n. cond (ltb y x) 1 0 + n) (count_all ys x)

-- a list that rises
abbrev pub rising : List ℕ → Bool
rising [] = true
rising (y ∷ ys) = all (ltb y) ys && rising ys

none_below : (l : List ℕ) {x y : ℕ} → x ≤ y → T (all (ltb y) l) → count_below l x ≡ 0
unfolding count_below
none_below [] h t = refl
none_below (z ∷ l) {x} {y} h t =
    let p = ltb→lt y z (and_left (ltb y z) (all (ltb y) l) t) in
    rw (le-ltb z x (omega arith)) (omega (arith, none_below l h (and_right (ltb y z) (all (ltb y) l) t)))

-- how many of y and then ys are below x
count_of : (y : ℕ) (ys : List ℕ) (x : ℕ) → T (all (ltb y) ys) →
    ((y < x) × (count_below (y ∷ ys) x ≡ 1 + count_below ys x)) ⊎
    ((x ≤ y) × (count_below ys x ≡ 0) × (count_below (y ∷ ys) x ≡ 0))
unfolding count_below
count_of y ys x t = elim (dec_lt y x) [
  | yes p ↦ inl (p, rw (lt-ltb y x p) refl)
  | no p ↦
      let none = none_below ys {x = x} {y = y} (omega arith) t in
      inr (omega arith, none, rw (le-ltb y x (omega arith), none) refl)
]

-- as many of a list that rises as are below x stand first
pub record Around (l : List ℕ) (x i : ℕ) : Type 0 where
  pub below : i < count_below l x → get_or l i 0 < x
  pub above : count_below l x ≤ i → x ≤ get_or l i 0

pub around : (l : List ℕ) (x : ℕ) → T (rising l) → (i : ℕ) → i < length l → Around l x i
around [] x t i h = absurd (omega arith)
around (y ∷ ys) x t zero h = elim (count_of y ys x (and_left (all (ltb y) ys) (rising ys) t)) [
  | inl p ↦ record { below = λ q. p.0; above = λ q. absurd (omega arith) }
  | inr p ↦ record { below = λ q. absurd (omega arith); above = λ q. p.0 }
]
around (y ∷ ys) x t (suc i) h =
    let a = around ys x (and_right (all (ltb y) ys) (rising ys) t) i (omega arith) in
    elim (count_of y ys x (and_left (all (ltb y) ys) (rising ys) t)) [
      | inl p ↦ record { below = λ q. a.below (omega arith); above = λ q. a.above (omega arith) }
      | inr p ↦ record { below = λ q. absurd (omega arith); above = λ q. a.above (omega arith) }
    ]

pub among_at : (l : List ℕ) (i : ℕ) → i < length l → among l (get_or l i 0) ≡ true
among_at [] i h = absurd (omega arith)
among_at (y ∷ ys) zero h = rw (eq-eqb y y refl) refl
among_at (y ∷ ys) (suc i) h = or_right (eqb (get_or ys i 0) y) _ (among_at ys i (omega arith))

-- x, which is none of them, lies between those in the places n and n + 1, where n + 1 of them are below it
pub between_places : (l : List ℕ) (x n : ℕ) → T (rising l) → among l x ≡ false → n + 1 ≡ count_below l x →
    n + 1 < length l → (get_or l n 0 < x) × (x < get_or l (n + 1) 0)
between_places l x n t none count h =
    let other : x ≡ get_or l (n + 1) 0 → ⊥ = λ e. false≢true (sym none ∙ rw e (among_at l (n + 1) h)) in
    let low = (around l x t n (omega arith)).below (omega arith) in
    let high = (around l x t (n + 1) h).above (omega arith) in
    (low, omega (arith, other))

-- ---- the neighbours of x in a list that rises

-- the number in a place passes what all pass
all_place : (test : ℕ → Bool) (l : List ℕ) (i : ℕ) → i < length l → T (all test l) → T (test (get_or l i 0))
all_place test l i h t = all_at test l (get_or l i 0) t (among_at l i h)

none_below_is_0 : (l : List ℕ) (x : ℕ) → count_below l x ≡ 0 → greatest (filter (λ t. ltb t x) l) ≡ 0
unfolding count_below filter greatest
none_below_is_0 [] x e = refl
none_below_is_0 (y ∷ ys) x e = elim (dec_lt y x) [
  | yes p ↦ absurd (omega (arith, rw (lt-ltb y x p) at e))
  | no p ↦
      let q = le-ltb y x (omega arith) in
      rw q (none_below_is_0 ys x (omega (arith, rw q at e)))
]

-- where n + 1 of them are below x, the greatest of these is in the place n
pub greatest_below : (l : List ℕ) (x n : ℕ) → T (rising l) → n + 1 ≡ count_below l x → n < length l →
    greatest (filter (λ t. ltb t x) l) ≡ get_or l n 0
unfolding filter greatest
greatest_below [] x n t e h = absurd (omega arith)
greatest_below (y ∷ ys) x zero t e h = elim (count_of y ys x (and_left (all (ltb y) ys) (rising ys) t)) [
  | inl p ↦ rw (lt-ltb y x p.0) (omega (arith, none_below_is_0 ys x (omega arith)))
  | inr p ↦ absurd (omega arith)
]
greatest_below (y ∷ ys) x (suc n) t e h = elim (count_of y ys x (and_left (all (ltb y) ys) (rising ys) t)) [
  | inl p ↦
      let rest = greatest_below ys x n (and_right (all (ltb y) ys) (rising ys) t) (omega arith) (omega arith) in
      let later = ltb→lt y _ (all_place (ltb y) ys n (omega arith) (and_left (all (ltb y) ys) (rising ys) t)) in
      rw (lt-ltb y x p.0) (omega (arith, rest, later))
  | inr p ↦ absurd (omega arith)
]

-- what is below all of a list is below its least, and before them the least itself
below_least : (x y : ℕ) (ys : List ℕ) → x < y → T (all (ltb x) ys) → x < least (y ∷ ys)
unfolding least
below_least x y [] h t = h
below_least x y (z ∷ zs) h t =
    let first = ltb→lt x z (and_left (ltb x z) (all (ltb x) zs) t) in
    let p = below_least x z zs first (and_right (ltb x z) (all (ltb x) zs) t) in
    omega (arith, p)

least_first : (y : ℕ) (ys : List ℕ) → T (all (ltb y) ys) → least (y ∷ ys) ≡ y
unfolding least
least_first y [] t = refl
least_first y (z ∷ zs) t =
    let first = ltb→lt y z (and_left (ltb y z) (all (ltb y) zs) t) in
    omega (arith, below_least y z zs first (and_right (ltb y z) (all (ltb y) zs) t))

-- all of those that pass are among all
all_filter : (test other : ℕ → Bool) (l : List ℕ) → T (all test l) → T (all test (filter other l))
unfolding filter
all_filter test other [] t = tt
all_filter test other (y ∷ ys) t =
    let rest = all_filter test other ys (and_right (test y) (all test ys) t) in
    by_test (other y) (λ zs. T (all test zs)) (λ _. rw (is_true (test y) (and_left (test y) (all test ys) t)) rest)
    (λ _. rest)

-- and where x is none of them, and n are below it, the least above it is in the place n
pub least_above : (l : List ℕ) (x n : ℕ) → T (rising l) → among l x ≡ false → n ≡ count_below l x → n < length l →
    least (filter (λ t. ltb x t) l) ≡ get_or l n 0
unfolding filter
least_above [] x n t none e h = absurd (omega arith)
least_above (y ∷ ys) x zero t none e h = elim (count_of y ys x (and_left (all (ltb y) ys) (rising ys) t)) [
  | inl p ↦ absurd (omega arith)
  | inr p ↦
      let later = and_left (all (ltb y) ys) (rising ys) t in
      let other : x ≡ y → ⊥ = λ q. false≢true (sym (or_parts (eqb x y) (among ys x) none).0 ∙ eq-eqb x y q) in
      rw (lt-ltb x y (omega (arith, p.0, other))) (least_first y _ (all_filter (ltb y) (λ t. ltb x t) ys later))
]
least_above (y ∷ ys) x (suc n) t none e h = elim (count_of y ys x (and_left (all (ltb y) ys) (rising ys) t)) [
  | inl p ↦
      let other = (or_parts (eqb x y) (among ys x) none).1 in
      let rest = least_above ys x n (and_right (all (ltb y) ys) (rising ys) t) other (omega arith) (omega arith) in
      rw (le-ltb x y (omega arith)) rest
  | inr p ↦ absurd (omega arith)
]

-- the row that has a key is the row in the key's place
module _ {A : Type 0} (key : A → ℕ) (none : A) where
  pub lookup_at : (rows : List A) (x : ℕ) → lookup key none rows x ≡ get_or rows (place_in (map key rows) x) none
  lookup_at [] x = refl
  lookup_at (r ∷ rows) x =
      elim (eqb x (key r)) as (λ b. cond b r (lookup key none rows x) ≡
      get_or (r ∷ rows) (cond b 0 (suc (place_in (map key rows) x))) none) [ true ↦ refl | false ↦ lookup_at rows x ]

  -- and has that key, where the key is in the table
  pub lookup_key : (rows : List A) (x : ℕ) → among (map key rows) x ≡ true → key (lookup key none rows x) ≡ x
  lookup_key [] x e = absurd (false≢true e)
  lookup_key (r ∷ rows) x e = elim (or_cases (eqb x (key r)) (among (map key rows) x) e) [
    | inl p ↦ rw p (sym (eqb-true x (key r) p))
    | inr p ↦ by_test (eqb x (key r)) (λ s. key s ≡ x) (λ t. sym (eqb→eq x (key r) t)) (λ t. lookup_key rows x p)
  ]
