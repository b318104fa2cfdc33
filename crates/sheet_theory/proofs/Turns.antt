-- What the loop over a sheet's scenarios keeps, turn by turn.
use mathlib.Core.Path.{◌≡◌, refl}
use mathlib.Core.List.{List}
use Prim.Native.Nat.{ℕ, ◌+◌, ◌<◌}
use lib.IntN.{pos}
use lib.ListN.{length, get_or, set, take, replicate}
use Rattle.scenario_theory.specs.declared.Scenario.{Scenario}
use Rattle.engine_theory.specs.declared.FlatAnswer.{FlatAnswer}
use Rattle.engine_theory.specs.Evaluation.{answer_of}
use Rattle.engine_theory.specs.Flat.{told}
use Rattle.sheet_theory.specs.declared.FlatSheet.{FlatSheet}
use Rattle.sheet_theory.specs.Promise.{sheet_most, no_answer}
use Rattle.sheet_theory.specs.Evaluation.{filled, column, sheet_by}
use Rattle.sheet_theory.proofs.Filling.{filled_turn}
use Rattle.sheet_theory.proofs.Laws.{field_of}

-- after i turns the arrays are those of the sheet of the first i scenarios
pub record Turned (number n : ℕ) (xs : List Scenario) (i : ℕ) (r : FlatSheet) : Type 0 where
  pub held : r ≡ record (sheet_by number i xs) { count = n }

module _ {B : Type 0} where
  -- an array that holds nothing yet
  abbrev pub zeros : B → List B
  zeros z = replicate sheet_most z

-- before the first turn all is zeros
pub first_turn : (number n : ℕ) (xs : List Scenario) →
    Turned number n xs 0 (
    record {
      number = number;
      count = n;
      median_low = zeros (pos 0);
      median_high = zeros (pos 0);
      sigma_low = zeros (pos 0);
      sigma_high = zeros (pos 0);
      numbers = zeros 0;
    }
    )
unfolding filled
first_turn number n xs = record { held = refl }

-- a sheet with an answer at place i
abbrev pub stored : FlatSheet → ℕ → FlatAnswer → FlatSheet
stored r i a =
    record {
      number = r.number;
      count = r.count;
      median_low = set r.median_low i a.median_low;
      median_high = set r.median_high i a.median_high;
      sigma_low = set r.sigma_low i a.sigma_low;
      sigma_high = set r.sigma_high i a.sigma_high;
      numbers = set r.numbers i a.number;
    }

-- with the answer of the next scenario of the first n it is the sheet of one more
next : (number n i : ℕ) (xs : List Scenario) (d : Scenario) → length xs ≡ sheet_most → i < length (take n xs) →
    stored (record (sheet_by number i xs) { count = n }) i (told (answer_of (get_or (take n xs) i d)))
    ≡ record (sheet_by number (i + 1) xs) { count = n }
next number n i xs d long more =
    rw (
      at (λ a. a.number),
      at (λ a. a.median_low),
      at (λ a. a.median_high),
      at (λ a. a.sigma_low),
      at (λ a. a.sigma_high),
    ) refl
  where
    at : {B : Type 0} (field : FlatAnswer → B) →
        set (column field i xs) i (field (told (answer_of (get_or (take n xs) i d)))) ≡ column field (i + 1) xs
    at field = filled_turn (field_of field) (field no_answer) n i xs d long more refl

-- a turn stores the next scenario's answer, a
pub next_turn : {number n : ℕ} {xs : List Scenario} {i : ℕ} {r : FlatSheet} (d : Scenario) (a : FlatAnswer) →
    Turned number n xs i r → length xs ≡ sheet_most → i < length (take n xs) →
    a ≡ told (answer_of (get_or (take n xs) i d)) → Turned number n xs (i + 1) (stored r i a)
next_turn {number} {n} {xs} {i} d a h long more e = record { held = rw (h.held, e) (next number n i xs d long more) }

-- after the last turn it is the whole sheet
pub last_turn : {number n : ℕ} {xs : List Scenario} {r : FlatSheet} → Turned number n xs n r → r ≡ sheet_by number n xs
last_turn h = h.held
