-- What is promised of an answer, whatever the engine computes: demand 3, from fields and from a record, in whole
-- numbers and in doubles.
use Rattle.std.specs.Prelude.{◌≡◌, true, false, List, [], ◌∷◌, ◌⊎◌, ℕ, suc, ◌≤◌, ℤ, pos, negsuc, ◌+ℤ◌, take, drop, ◌≤ℤ◌}
use Rattle.std.specs.Prelude.{Float, Result, Ok, Err}
use Rattle.std.specs.Float.Ieee.Exact.{HasValue}
use Rattle.exact_theory.specs.Formula.{Formula, ends, Encloses}
use Rattle.scenario_theory.specs.declared.Scenario.{Scenario}
use Rattle.scenario_theory.specs.declared.Refusal.{Refusal}
use Rattle.scenario_theory.specs.Refusal.{refusal_of}
use Rattle.scenario_theory.specs.Numbers.{refusal_number}
use Rattle.record_theory.specs.Outcome.{scenario_in, read_refusal, rest_at}
use Rattle.engine_theory.specs.declared.Enclosure.{Enclosure}
use Rattle.engine_theory.specs.Models.{median, sigma, median_width, sigma_width}

-- what answering gives, in whole numbers of units, with a record's length, and in doubles; or why it is turned away
abbrev pub Answer : Type 0
Answer = Result (Enclosure ℤ) Refusal

abbrev pub NextAnswer : Type 0
NextAnswer = Result (Enclosure ℤ × ℕ) Refusal

abbrev pub DoublesAnswer : Type 0
DoublesAnswer = Result (Enclosure Float) Refusal

-- ---- in whole numbers of units

-- "this paper's number and values for each of its cases" ('What form each place needs'): 0 is no refusal
abbrev pub answer_number : Answer → ℕ
answer_number (Ok e) = 0
answer_number (Err r) = refusal_number r

-- the ends that lines print and doubles equal: "low and high of the median, low and high of sigma"
abbrev pub shown_ends : Answer → List ℤ
shown_ends (Ok e) = e.median.low ∷ e.median.high ∷ e.sigma.low ∷ e.sigma.high ∷ []
shown_ends (Err r) = []

-- the values of an answer are these and no others: "An answer has four signed whole numbers of units"; "A refusal
-- returns its number only"
abbrev pub answer_values : Answer → List ℤ
answer_values a = shown_ends a

-- two ends that enclose the formula f, at every fineness, at most w units apart
pub record EnclosedWithin (w : ℕ) (f : Formula) (low high : ℤ) : Type 0 where
  pub encloses : Encloses (ends low high) f
  pub narrow : high ≤ℤ (low +ℤ pos w)

-- the values are four, which enclose what the model of s gives: two for the median, two for sigma
pub record EnclosesBoth (s : Scenario) (values : List ℤ) : Type 0 where
  pub median_low : ℤ
  pub median_high : ℤ
  pub sigma_low : ℤ
  pub sigma_high : ℤ
  pub four : values ≡ median_low ∷ median_high ∷ sigma_low ∷ sigma_high ∷ []
  pub median_enclosed : EnclosedWithin (median_width s) (median s) median_low median_high
  pub sigma_enclosed : EnclosedWithin (sigma_width s) (sigma s) sigma_low sigma_high

-- an answer to s where k is the number of the first check that applies, 0 where none does: answered "exactly when none
-- of the refusal numbers .. applies. Otherwise it gets the first that applies" (demand 3)
pub record AnswerPromise (k : ℕ) (s : Scenario) (a : Answer) : Type 0 where
  pub number : answer_number a ≡ k
  pub enclosed : k ≡ 0 → EnclosesBoth s (answer_values a)
  pub refused : (k ≡ 0 → ⊥) → answer_values a ≡ []

-- ---- of two answers by Idriss

-- the third and the fourth value
abbrev pub sigma_values : Answer → List ℤ
sigma_values a = take 2 (drop 2 (answer_values a))

-- "at one magnitude all accepted periods up to 50 give the same sigma ends, as do all from 3000 on" (W-205), whatever
-- the other fields are
abbrev pub SameSigma : (Scenario → Answer) → Type 0
SameSigma answer =
    (s t : Scenario) → s.model ≡ 1 → t.model ≡ 1 → refusal_of s ≡ 0 → refusal_of t ≡ 0 → s.magnitude ≡ t.magnitude →
    ((s.period ≤ 50) × (t.period ≤ 50)) ⊎ ((3_000 ≤ s.period) × (3_000 ≤ t.period)) →
    sigma_values (answer s) ≡ sigma_values (answer t)

-- ---- of the record at the front of some bytes, with its length

-- the answer, and the length, 0 where it is refused
abbrev pub answer_in : NextAnswer → Answer
answer_in (Ok x) = Ok x.0
answer_in (Err r) = Err r

abbrev pub length_in : NextAnswer → ℕ
length_in (Ok x) = x.1
length_in (Err r) = 0

pub record NextPromise (bytes : List ℕ) (r : NextAnswer) : Type 0 where
  pub answer : AnswerPromise (read_refusal bytes) (scenario_in bytes) (answer_in r)
  pub length : length_in r ≡ rest_at bytes

-- ---- in doubles

-- the number and the values of each case, as of an answer
abbrev pub doubles_number : DoublesAnswer → ℕ
doubles_number (Ok d) = 0
doubles_number (Err r) = refusal_number r

abbrev pub doubles_values : DoublesAnswer → List Float
doubles_values (Ok d) = d.median.low ∷ d.median.high ∷ d.sigma.low ∷ d.sigma.high ∷ []
doubles_values (Err r) = []

-- x is finite, has the sign of z and its absolute value: "doubles that equal the whole numbers, nothing rounded"
abbrev pub Equals : Float → ℤ → Type 0
Equals x (pos n) = HasValue x false n 1
Equals x (negsuc n) = HasValue x true (suc n) 1

-- as many, and each equals its whole number
abbrev pub AllEqual : List Float → List ℤ → Type 0
AllEqual [] [] = Unit {0}
AllEqual [] (z ∷ zs) = ⊥
AllEqual (x ∷ xs) [] = ⊥
AllEqual (x ∷ xs) (z ∷ zs) = Equals x z × AllEqual xs zs

-- "either all four ends as doubles, or the refusal number": those of an answer a of which the promise holds
pub record DoublesPromise (k : ℕ) (s : Scenario) (a : Answer) (d : DoublesAnswer) : Type 0 where
  pub whole : AnswerPromise k s a
  pub number : doubles_number d ≡ answer_number a
  pub values : AllEqual (doubles_values d) (shown_ends a)
