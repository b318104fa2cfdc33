-- What one turn more makes of the greatest end so far, and of the marks so far.
use mathlib.Core.Path.{◌≡◌, refl, ◌∙◌}
use mathlib.Core.List.{List}
use Prim.Native.Nat.{ℕ, zero, suc, ◌+◌, ◌≤◌, min}
use native.Mathlib.Numerals.{add-one}
use native.Mathlib.Omega.{arith}
use lib.IntN.{ℤ, pos}
use lib.ListN.{length, set, take}
use lib.Seq.{length-take-le, get_or-take}
use Rattle.std.specs.Prelude.{Option}
use Rattle.governing_theory.specs.declared.Greatest.{Greatest}
use Rattle.sheet_theory.specs.declared.FlatSheet.{FlatSheet}
use Rattle.governing_theory.specs.Evaluation.{with_place, greatest_of, mark_of, marks_of, screening_by, screening_of}
use Rattle.governing_theory.proofs.Screening.{within_is}
use Rattle.governing_theory.proofs.TwoColumns.{Turn}

module _ (numbers : List ℕ) (ends : List ℤ) (k : ℕ) {i number : ℕ} {end : ℤ}
    (t : Turn numbers ends k i number end) where
  pub greatest_next : {best : Option Greatest} → best ≡ greatest_of numbers ends k →
      with_place best i number end ≡ greatest_of numbers ends (k + 1)
  unfolding greatest_of
  greatest_next e = rw (e, t.number, t.first 0, t.second (pos 0), add-one) refl

  pub marks_next : (g : ℤ) {marks : List ℕ} → marks ≡ marks_of g numbers ends k →
      set marks i (mark_of g number end) ≡ marks_of g numbers ends (k + 1)
  unfolding marks_of
  marks_next g e = rw (e, t.number, t.first 0, t.second (pos 0), add-one) refl

-- of the first n places what is computed is what is computed of the first n of all
module _ (numbers : List ℕ) (ends : List ℤ) (n : ℕ) where
  first_greatest : (k : ℕ) → k ≤ n → greatest_of (take n numbers) (take n ends) k ≡ greatest_of numbers ends k
  unfolding greatest_of
  first_greatest zero h = refl
  first_greatest (suc k) h =
      rw (
        get_or-take n numbers k 0 (omega arith),
        get_or-take n ends k (pos 0) (omega arith),
        first_greatest k (omega arith),
      ) refl

  first_marks : (g : ℤ) (k : ℕ) → k ≤ n → marks_of g (take n numbers) (take n ends) k ≡ marks_of g numbers ends k
  unfolding marks_of
  first_marks g zero h = refl
  first_marks g (suc k) h =
      rw (
        get_or-take n numbers k 0 (omega arith),
        get_or-take n ends k (pos 0) (omega arith),
        first_marks g k (omega arith),
      ) refl

  module _ (few : n ≤ length numbers) (few' : n ≤ length ends) where
    all : min (length (take n numbers)) (length (take n ends)) ≡ n
    all = omega (arith, length-take-le n numbers few, length-take-le n ends few')

    pub greatest_taken : greatest_of (take n numbers) (take n ends)
        (min (length (take n numbers)) (length (take n ends))) ≡ greatest_of numbers ends n
    greatest_taken = rw all (first_greatest n (omega arith))

    pub marks_taken : (g : ℤ) → marks_of g (take n numbers) (take n ends)
        (min (length (take n numbers)) (length (take n ends))) ≡ marks_of g numbers ends n
    marks_taken g = rw all (first_marks g n (omega arith))

-- a sheet with number 0, by the greatest ends of its first places
pub screened : (s : FlatSheet) {high low : Option Greatest} → s.number ≡ 0 → s.count ≤ length s.numbers →
    s.count ≤ length s.median_high → s.count ≤ length s.median_low →
    high ≡ greatest_of (take s.count s.numbers) (take s.count s.median_high)
    (min (length (take s.count s.numbers)) (length (take s.count s.median_high))) →
    low ≡ greatest_of (take s.count s.numbers) (take s.count s.median_low)
    (min (length (take s.count s.numbers)) (length (take s.count s.median_low))) →
    screening_of s ≡ screening_by high low s
screened s e few few' few'' h l =
    rw (within_is s e, h ∙ greatest_taken _ _ _ few few', l ∙ greatest_taken _ _ _ few few'') refl
