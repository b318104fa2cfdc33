-- An array that is filled from the front, and what it holds at each place: for any f and any kind of elements.
use mathlib.Core.Path.{◌≡◌, refl, sym, ap, ◌∙◌}
use mathlib.Core.List.{List, [], ◌∷◌, ◌++◌, map, map-append}
use Prim.Native.Nat.{ℕ, zero, suc, ◌+◌, ◌-◌, ◌≤◌, ◌<◌}
use native.Mathlib.Omega.{arith}
use lib.ListN.{length, get_or, take, replicate, set, length-map}
use lib.Seq.{length-take-le, take-suc, append_snoc, set_at, take-append-le, take-take, get_or-append-add}
use Rattle.std.proofs.lemmas.List.{length-take, get_or-take}
use Rattle.sheet_theory.specs.Promise.{sheet_most}
use Rattle.sheet_theory.specs.Evaluation.{filled}

-- of nothing but z every element is z
pub all_z : {B : Type 0} (z : B) (k j : ℕ) → get_or (replicate k z) j z ≡ z
all_z z zero j = refl
all_z z (suc k) zero = refl
all_z z (suc k) (suc j) = all_z z k j

module _ {A B : Type 0} (f : A → B) (z : B) where
  -- so many are in front
  front : (n : ℕ) (xs : List A) → n ≤ length xs → length (map f (take n xs)) ≡ n
  front n xs h = length-map (take n xs) f ∙ length-take-le n xs h

  -- a store at place i adds the next
  pub filled_next : (i : ℕ) (xs : List A) (d : A) {v : B} → i < sheet_most → i < length xs → v ≡ f (get_or xs i d) →
      set (filled f z i xs) i v ≡ filled f z (i + 1) xs
  unfolding filled
  filled_next i xs d {v} room there e =
      let p : List B = map f (take i xs) in
      let rest : List B = replicate (sheet_most - suc i) z in
      let one : sheet_most - i ≡ suc (sheet_most - suc i) = omega arith in
      let next : suc i ≡ i + 1 = omega arith in
      ap (λ (k : ℕ). set (p ++ replicate k z) i v) one
      ∙ set_at p z rest v i (front i xs (omega arith))
      ∙ sym (append_snoc p v rest)
      ∙ ap (λ (y : B). p ++ (y ∷ []) ++ rest) e
      ∙ ap (λ (l : List B). l ++ rest)
      (sym (ap (map f) (take-suc xs i d there) ∙ map-append f (take i xs) (get_or xs i d ∷ [])))
      ∙ ap (λ (k : ℕ). map f (take k xs) ++ replicate (sheet_most - k) z) next

  -- so does a store in a turn of a loop over the first n of 64
  pub filled_turn : (n i : ℕ) (xs : List A) (d : A) {v : B} → length xs ≡ sheet_most → i < length (take n xs) →
      v ≡ f (get_or (take n xs) i d) → set (filled f z i xs) i v ≡ filled f z (i + 1) xs
  filled_turn n i xs d long h e =
      let short = length-take n xs in
      filled_next i xs d (omega (arith, short)) (omega (arith, short))
      (e ∙ ap f (get_or-take n xs i d (omega (arith, short))))

  -- in front stands f of each, whatever comes after
  at : (n : ℕ) (xs : List A) (rest : List B) (i : ℕ) (d : A) → i < n → n ≤ length xs →
      get_or (map f (take n xs) ++ rest) i z ≡ f (get_or xs i d)
  at zero xs rest i d h there = absurd (omega arith)
  at (suc n) [] rest i d h there = absurd (omega arith)
  at (suc n) (x ∷ xs) rest zero d h there = refl
  at (suc n) (x ∷ xs) rest (suc i) d h there = at n xs rest i d (omega arith) (omega arith)

  -- what is held at a place before the n-th, and at one from it on
  pub filled_before : (n : ℕ) (xs : List A) (i : ℕ) (d : A) → i < n → n ≤ length xs →
      get_or (filled f z n xs) i z ≡ f (get_or xs i d)
  unfolding filled
  filled_before n xs i d h there = at n xs (replicate (sheet_most - n) z) i d h there

  pub filled_after : (n : ℕ) (xs : List A) (i : ℕ) → n ≤ i → n ≤ length xs → get_or (filled f z n xs) i z ≡ z
  unfolding filled
  filled_after n xs i h there =
      let p : List B = map f (take n xs) in
      let past : i ≡ length p + (i - n) = omega (arith, front n xs there) in
      ap (λ (k : ℕ). get_or (p ++ replicate (sheet_most - n) z) k z) past
      ∙ get_or-append-add p (replicate (sheet_most - n) z) (i - n) z
      ∙ all_z z (sheet_most - n) (i - n)

  -- what is not among the first n is not looked at
  pub filled_alike : (n : ℕ) (xs ys : List A) → take n xs ≡ take n ys → filled f z n xs ≡ filled f z n ys
  unfolding filled
  filled_alike n xs ys e = ap (λ (l : List A). map f l ++ replicate (sheet_most - n) z) e

  -- f of the first, and the first of f of all
  mapped : (n : ℕ) (xs : List A) → map f (take n xs) ≡ take n (map f xs)
  mapped zero xs = refl
  mapped (suc n) [] = refl
  mapped (suc n) (x ∷ xs) = ap (λ (l : List B). f x ∷ l) (mapped n xs)

  -- the first m of what is filled with more are f of the first m
  pub filled_front : (m n : ℕ) (xs : List A) → m ≤ n → n ≤ length xs → take m (filled f z n xs) ≡ take m (map f xs)
  unfolding filled
  filled_front m n xs few there =
      take-append-le m (map f (take n xs)) (replicate (sheet_most - n) z) (omega (arith, front n xs there))
      ∙ sym (mapped m (take n xs))
      ∙ ap (map f) (take-take m n xs few)
      ∙ mapped m xs
