-- The three cases of what is computed of a sheet.
use mathlib.Core.Path.{◌≡◌, refl, ap, ◌∙◌}
use borrow.Author.Tests.{eq-eqb, ne_eqb}
use Rattle.std.specs.Prelude.{Option, Some, None}
use Rattle.sheet_theory.specs.declared.FlatSheet.{FlatSheet}
use Rattle.governing_theory.specs.declared.Greatest.{Greatest}
use Rattle.governing_theory.specs.Evaluation.{greatest_high, greatest_low, no_screening, screening_by}
use Rattle.governing_theory.specs.Evaluation.{screening_within, screening_of}

module _ (sheet : FlatSheet) where
  -- with 14, with 15, and with neither
  pub over_is : (sheet.number ≡ 0 → ⊥) → screening_of sheet ≡ no_screening sheet.number
  unfolding screening_of
  over_is some = rw (ne_eqb sheet.number 0 some) refl

  pub within_is : sheet.number ≡ 0 → screening_of sheet ≡ screening_within sheet
  unfolding screening_of
  within_is e = rw (eq-eqb sheet.number 0 e) refl

  pub none_is : sheet.number ≡ 0 → greatest_high sheet ≡ None → screening_of sheet ≡ no_screening 15
  none_is e none = rw (within_is e, none) refl

  pub some_is : {high low : Greatest} → sheet.number ≡ 0 → greatest_high sheet ≡ Some high →
      greatest_low sheet ≡ Some low → screening_of sheet ≡ screening_by (Some high) (Some low) sheet
  some_is {high} e is is' =
      within_is e
      ∙ ap (λ (h : Option Greatest). screening_by h (greatest_low sheet) sheet) is
      ∙ ap (λ (l : Option Greatest). screening_by (Some high) l sheet) is'
