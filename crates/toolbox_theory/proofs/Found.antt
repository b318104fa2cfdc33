-- A loop goes through the places of a table, and holds the row of place k once it has passed k.
use mathlib.Core.Path.{◌≡◌, ◌∙◌}
use mathlib.Core.List.{List, map}
use Prim.Native.Nat.{ℕ, ◌<◌}
use native.Mathlib.Omega.{arith}
use lib.ListN.{get_or, get_or-map}

-- the loop's invariant at place i; `past` is what stands past the table's end
abbrev pub Found : {A : Type 0} → A → List A → ℕ → A → ℕ → Type 0
Found past t k row i = k < i → row ≡ get_or t k past

pub first : {A : Type 0} (past : A) (t : List A) (k : ℕ) → Found past t k (get_or t 0 past) 1
first past t k h = let e : k ≡ 0 = omega arith in rw e

-- where the table's rows are f of the definition's, so is the row that is found
pub row_found : {A B : Type 0} (f : A → B) (rows : List A) (past : A) {t : List B} {row : B} (k i : ℕ) →
    t ≡ map f rows → k < i → Found (f past) t k row i → row ≡ f (get_or rows k past)
row_found f rows past k i same h found = found h ∙ rw same (get_or-map f rows k past)
