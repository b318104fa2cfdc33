-- The marks of the first n places, and zeros after them.
use mathlib.Core.Path.{◌≡◌, refl, ◌∙◌}
use mathlib.Core.Logic.{⊎_elim}
use mathlib.Core.List.{List}
use Prim.Native.Nat.{ℕ, zero, suc, ◌≤◌, ◌<◌}
use native.Mathlib.Nat.{eq-or-lt_of_le, le_of_suc-le-suc}
use native.Mathlib.Omega.{arith}
use lib.IntN.{ℤ, pos}
use lib.ListN.{length, get_or, length-set}
use lib.Seq.{get_or-set_same, get_or-set_other}
use Rattle.sheet_theory.specs.Promise.{sheet_most}
use Rattle.sheet_theory.proofs.Filling.{all_z}
use Rattle.governing_theory.specs.Evaluation.{mark_of, marks_of}

module _ (g : ℤ) (numbers : List ℕ) (highs : List ℤ) where
  abbrev marks : ℕ → List ℕ
  marks n = marks_of g numbers highs n

  abbrev mark : ℕ → ℕ
  mark i = mark_of g (get_or numbers i 0) (get_or highs i (pos 0))

  long : (n : ℕ) → length (marks n) ≡ sheet_most
  unfolding marks_of
  long zero = refl
  long (suc n) = length-set (marks n) n (mark n) ∙ long n

  pub mark_before : (n i : ℕ) → i < n → n ≤ sheet_most → get_or (marks n) i 0 ≡ mark i
  unfolding marks_of
  mark_before zero i h few = absurd (omega arith)
  mark_before (suc n) i h few =
      ⊎_elim
      (λ e. rw e (get_or-set_same (marks n) n (mark n) 0 (omega (arith, long n))))
      (λ b. get_or-set_other (marks n) n i (mark n) 0 (λ e. omega arith) ∙ mark_before n i b (omega arith))
      (eq-or-lt_of_le (le_of_suc-le-suc h))

  pub mark_after : (n i : ℕ) → n ≤ i → get_or (marks n) i 0 ≡ 0
  unfolding marks_of
  mark_after zero i h = all_z 0 sheet_most i
  mark_after (suc n) i h =
      get_or-set_other (marks n) n i (mark n) 0 (λ e. omega arith) ∙ mark_after n i (omega arith)
