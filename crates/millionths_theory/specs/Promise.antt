-- What is promised of a median in millionths of g, whatever the engine computes: request W-203.
use Rattle.std.specs.Prelude.{◌≡◌, List, [], ◌∷◌, ℕ, ◌+◌, ◌/◌, ◌≤◌, pos, ◌+ℤ◌, ◌≤ℤ◌, ℤ}
use Rattle.std.specs.Prelude.{Result, Ok, Err}
use Rattle.exact_theory.specs.Fraction.{Fraction, ◌≤q◌}
use Rattle.exact_theory.specs.Pair.{◌∈◌}
use Rattle.exact_theory.specs.Logarithm.{ln_pair}
use Rattle.exact_theory.specs.Formula.{Formula, eval, Defined, Encloses, ends}
use Rattle.interval_theory.specs.declared.Ends.{Ends}
use Rattle.scenario_theory.specs.declared.Scenario.{Scenario}
use Rattle.scenario_theory.specs.declared.Refusal.{Refusal}
use Rattle.scenario_theory.specs.Numbers.{refusal_number}
use Rattle.engine_theory.specs.Models.{median}
use Rattle.engine_theory.specs.Ranges.{median_most}

-- what answering in millionths gives: two of them, or why the scenario is turned away
abbrev pub MillionthsAnswer : Type 0
MillionthsAnswer = Result (Ends ℕ) Refusal

-- so many are 1 g
abbrev pub million : ℕ
million = 1_000_000

-- at fineness n some point of f's pair lies from the low end of ln(a/10^6)'s pair to the high end of ln(b/10^6)'s, ends
-- included; "Where a is 0 it sets no lower bound"
pub record MeetsMillionths (n : ℕ) (f : Formula) (a b : ℕ) : Type 0 where
  pub point : Fraction
  pub inside : point ∈ eval n f
  pub from : (a ≡ 0 → ⊥) → (ln_pair n a million).low ≤q point
  pub to : point ≤q (ln_pair n b million).high

-- "The exact value lies between ln(a/10^6) and ln(b/10^6), by the same sums at every fineness": document 01's
-- enclosure, `Encloses`, with these for ends; ln(b/10^6) is of a b of at least 1
pub record BetweenMillionths (f : Formula) (a b : ℕ) : Type 0 where
  pub some : 1 ≤ b
  pub defined : (n : ℕ) → 1 ≤ n → Defined n f
  pub meets : (n : ℕ) → 1 ≤ n → MeetsMillionths n f a b

-- "b − a is at most 2 plus b/100000 rounded down"
abbrev pub Gap : ℕ → ℕ → Type 0
Gap a b = b ≤ a + 2 + b / 100_000

-- f lies between a and b, which are in order and no farther apart than that
pub record MillionthsEnds (f : Formula) (a b : ℕ) : Type 0 where
  pub between : BetweenMillionths f a b
  pub order : a ≤ b
  pub gap : Gap a b

-- no median's ends may be farther apart (W-201)
abbrev pub widest : ℕ
widest = 4_000

-- ends that enclose f, at most so far apart, and not above the most that a median's are
pub record Convertible (f : Formula) (e : Ends ℤ) : Type 0 where
  pub encloses : Encloses (ends e.low e.high) f
  pub narrow : e.high ≤ℤ (e.low +ℤ pos widest)
  pub few : e.high ≤ℤ pos median_most

-- two numbers that come from the ends e: every f that these enclose so lies between the numbers
abbrev pub FromEnds : Ends ℤ → Ends ℕ → Type 0
FromEnds e m = (f : Formula) → Convertible f e → MillionthsEnds f m.low m.high

-- the number and the values of each case (document 01): 0 is no refusal, and "A refusal returns its number only"
abbrev pub millionths_number : MillionthsAnswer → ℕ
millionths_number (Ok m) = 0
millionths_number (Err r) = refusal_number r

abbrev pub millionths_values : MillionthsAnswer → List ℕ
millionths_values (Ok m) = m.low ∷ m.high ∷ []
millionths_values (Err r) = []

-- the values are two, and what the model of s gives lies between them: "The engine gives whole numbers a and b of
-- millionths of g"
pub record BoundsMedian (s : Scenario) (values : List ℕ) : Type 0 where
  pub a : ℕ
  pub b : ℕ
  pub two : values ≡ a ∷ b ∷ []
  pub bounds : MillionthsEnds (median s) a b

-- an answer to s where k is the number of the first check that applies, 0 where none does: "The call refuses as
-- answering does"
pub record MillionthsPromise (k : ℕ) (s : Scenario) (r : MillionthsAnswer) : Type 0 where
  pub number : millionths_number r ≡ k
  pub between : k ≡ 0 → BoundsMedian s (millionths_values r)
  pub refused : (k ≡ 0 → ⊥) → millionths_values r ≡ []
