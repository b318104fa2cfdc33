-- What is computed for a sheet of scenarios: request W-204.
use Rattle.std.specs.Prelude.{if◌then◌else◌, List, ◌++◌, map, ℕ, ◌-◌, nat_lt, take, replicate, Result, Ok, Err}
use Rattle.std.specs.Result.{result_unwrap_or}
use Rattle.scenario_theory.specs.declared.Scenario.{Scenario}
use Rattle.scenario_theory.specs.declared.Refusal.{Refusal}
use Rattle.scenario_theory.specs.declared.Refusal.TheVariants.{TooManyScenarios}
use Rattle.scenario_theory.specs.Numbers.{refusal_number}
use Rattle.engine_theory.specs.declared.FlatAnswer.{FlatAnswer}
use Rattle.engine_theory.specs.Evaluation.{answer_of}
use Rattle.engine_theory.specs.Flat.{told}
use Rattle.sheet_theory.specs.declared.FlatSheet.{FlatSheet}
use Rattle.sheet_theory.specs.Promise.{sheet_most, no_answer}

module _ {A B : Type 0} where
  -- an array of 64: f of each of the first n of xs, then z
  unfoldable pub filled : (A → B) → B → ℕ → List A → List B
  filled f z n xs = map f (take n xs) ++ replicate (sheet_most - n) z

module _ {B : Type 0} where
  -- the array of one field: that of each of the first n scenarios' answers, as the single call gives them, then zeros
  abbrev pub column : (FlatAnswer → B) → ℕ → List Scenario → List B
  column field n scenarios = filled (λ s. field (told (answer_of s))) (field no_answer) n scenarios

-- how many are answered; or "14, more than 64 scenarios, checked before all else"
abbrev pub head_of : ℕ → Result ℕ Refusal
head_of count = if nat_lt sheet_most count then Err TooManyScenarios else Ok count

-- and with 14 none
abbrev pub answered_count : ℕ → ℕ
answered_count count = result_unwrap_or (head_of count) 0

-- the sheet with such a number, where so many of the first scenarios are answered
abbrev pub sheet_by : ℕ → ℕ → List Scenario → FlatSheet
sheet_by number n scenarios =
    record {
      number = number;
      count = n;
      median_low = column (λ a. a.median_low) n scenarios;
      median_high = column (λ a. a.median_high) n scenarios;
      sigma_low = column (λ a. a.sigma_low) n scenarios;
      sigma_high = column (λ a. a.sigma_high) n scenarios;
      numbers = column (λ a. a.number) n scenarios;
    }

-- the sheet with such a head: "14 then and 0 otherwise"; with 14 "the count is 0"
abbrev pub sheet_with : Result ℕ Refusal → List Scenario → FlatSheet
sheet_with (Ok n) scenarios = sheet_by 0 n scenarios
sheet_with (Err e) scenarios = sheet_by (refusal_number e) 0 scenarios

-- "Up to 64 scenarios are answered in one call, and the result holds the answers and their count"
unfoldable pub sheet_of : ℕ → List Scenario → FlatSheet
sheet_of count scenarios = sheet_with (head_of count) scenarios
