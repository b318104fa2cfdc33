-- The number of each reason to turn a scenario, its record or a sheet away: document 01, 'What is turned away';
-- document 02, W-202 for 13, W-204 for 14 and W-206 for 15.
use Rattle.std.specs.Prelude.{ℕ, ◌-◌, List, [], ◌∷◌, get_or, Result, Ok, Err}
use Rattle.scenario_theory.specs.declared.Refusal.{Refusal}
use Rattle.scenario_theory.specs.declared.Refusal.TheVariants as E
use Rattle.scenario_theory.specs.Checks.{unless_refused}

abbrev pub refusal_number : Refusal → ℕ
refusal_number E.Model = 1
refusal_number E.Magnitude = 2
refusal_number E.Distance = 3
refusal_number E.Velocity = 4
refusal_number E.Mechanism = 5
refusal_number E.Period = 6
refusal_number E.Truncated = 7
refusal_number E.ReservedBit = 8
refusal_number E.MissingField = 9
refusal_number E.EmptyMap = 10
refusal_number E.DefaultWritten = 11
refusal_number E.BufferTooShort = 12
refusal_number E.ProjectionExceedsRupture = 13
refusal_number E.TooManyScenarios = 14
refusal_number E.NoneAccepted = 15

-- in the order of their numbers, from 1 on
abbrev pub reasons : List Refusal
reasons =
    E.Model ∷ E.Magnitude ∷ E.Distance ∷ E.Velocity ∷ E.Mechanism ∷ E.Period ∷ E.Truncated ∷ E.ReservedBit ∷
    E.MissingField ∷ E.EmptyMap ∷ E.DefaultWritten ∷ E.BufferTooShort ∷ E.ProjectionExceedsRupture ∷
    E.TooManyScenarios ∷ E.NoneAccepted ∷ []

-- and the reason that has a number from 1 to 15; no other number has one, and what this says of it is never used
abbrev pub with_number : ℕ → Refusal
with_number k = get_or reasons (k - 1) E.NoneAccepted

-- what a check answers, by its number
abbrev pub check_with : ℕ → Result (Unit {0}) Refusal
check_with k = unless_refused k (Ok tt) (Err (with_number k))
