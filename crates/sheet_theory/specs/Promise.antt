-- What is promised of a sheet of scenarios, whatever the engine computes: request W-204.
use Rattle.std.specs.Prelude.{◌≡◌, List, ℕ, ◌≤◌, ◌<◌, pos, get_or}
use Rattle.scenario_theory.specs.declared.Scenario.{Scenario}
use Rattle.scenario_theory.specs.Refusal.{refusal_of}
use Rattle.engine_theory.specs.declared.FlatAnswer.{FlatAnswer}
use Rattle.engine_theory.specs.Evaluation.{answer_of}
use Rattle.engine_theory.specs.Flat.{told, FlatPromise}
use Rattle.sheet_theory.specs.declared.FlatSheet.{FlatSheet}

-- "Up to 64 scenarios"
abbrev pub sheet_most : ℕ
sheet_most = 64

-- "places past the count hold zeros"
abbrev pub no_answer : FlatAnswer
no_answer = record {
  number = 0;
  median_low = pos 0;
  median_high = pos 0;
  sigma_low = pos 0;
  sigma_high = pos 0;
}

-- what a sheet holds at place i, counted from 0; its arrays are of 64 by their type, so that the zeros of `get_or` are
-- taken from place 64 on only
abbrev pub answer_at : FlatSheet → ℕ → FlatAnswer
answer_at r i = record {
  number = get_or r.numbers i 0;
  median_low = get_or r.median_low i (pos 0);
  median_high = get_or r.median_high i (pos 0);
  sigma_low = get_or r.sigma_low i (pos 0);
  sigma_high = get_or r.sigma_high i (pos 0);
}

-- what stands at the place of s
pub record PlacePromise (s : Scenario) (a : FlatAnswer) : Type 0 where
  -- "Each place equals what the single call gives for that scenario, refusals included"
  pub single : a ≡ told (answer_of s)
  -- and keeps what that call promises: "A refused place holds its number, with zeros for its ends"; "an accepted place
  -- holds 0 as its number", with ends that enclose
  pub promise : FlatPromise (refusal_of s) s a

-- a sheet of so many scenarios
pub record SheetPromise (count : ℕ) (scenarios : List Scenario) (r : FlatSheet) : Type 0 where
  -- "14, more than 64 scenarios, checked before all else; .. the count is 0"
  pub over : sheet_most < count → (r.number ≡ 14) × (r.count ≡ 0)
  -- "The count is the number of scenarios, refused ones too, so an empty sheet has count 0"; "14 then and 0 otherwise"
  pub within : count ≤ sheet_most → (r.number ≡ 0) × (r.count ≡ count)
  -- "A refused scenario doesn't stop the others": at each place, whatever stands at the others; d is never taken, as
  -- an array of 64 has a scenario at each of them
  pub places : (i : ℕ) (d : Scenario) → i < r.count → PlacePromise (get_or scenarios i d) (answer_at r i)
  -- "places past the count hold zeros"; with 14 "no place is then answered, .. and all places hold zeros"
  pub zeros : (i : ℕ) → r.count ≤ i → answer_at r i ≡ no_answer
