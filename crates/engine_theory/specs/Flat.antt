-- An answer as a plain struct, for hosts and sheets, and what is promised of it: demand 3 once more, by its number and
-- its ends. A refused answer is its number with zeros, and an accepted one has the number 0.
use Rattle.std.specs.Prelude.{◌≡◌, List, [], ◌∷◌, ℕ, ℤ, pos, Ok, Err}
use Rattle.scenario_theory.specs.declared.Scenario.{Scenario}
use Rattle.scenario_theory.specs.Numbers.{refusal_number}
use Rattle.engine_theory.specs.declared.FlatAnswer.{FlatAnswer}
use Rattle.engine_theory.specs.Promise.{Answer, EnclosesBoth}

-- "An answer has four signed whole numbers of units"; "A refusal returns its number only"
abbrev pub told : Answer → FlatAnswer
told (Ok e) = record {
  number = 0;
  median_low = e.median.low;
  median_high = e.median.high;
  sigma_low = e.sigma.low;
  sigma_high = e.sigma.high;
}
told (Err r) = record {
  number = refusal_number r;
  median_low = pos 0;
  median_high = pos 0;
  sigma_low = pos 0;
  sigma_high = pos 0;
}

-- "low and high of the median, low and high of sigma"
abbrev pub ends_in : FlatAnswer → List ℤ
ends_in a = a.median_low ∷ a.median_high ∷ a.sigma_low ∷ a.sigma_high ∷ []

-- an answer to s where k is the number of the first check that applies, 0 where none does: the number k itself, ends
-- that enclose what the model of s gives where it is 0, and zeros where it is not
pub record FlatPromise (k : ℕ) (s : Scenario) (a : FlatAnswer) : Type 0 where
  pub number : a.number ≡ k
  pub enclosed : k ≡ 0 → EnclosesBoth s (ends_in a)
  pub zeros : (k ≡ 0 → ⊥) → ends_in a ≡ pos 0 ∷ pos 0 ∷ pos 0 ∷ pos 0 ∷ []
