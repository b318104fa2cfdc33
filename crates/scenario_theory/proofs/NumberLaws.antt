-- Each number from 1 to 15 has a reason, and each check's number is one of them.
use mathlib.Core.Path.{◌≡◌, refl}
use mathlib.Core.Bool.{Bool, true, false, not}
use Prim.Native.Nat.{ℕ, zero, suc, ◌<◌, ◌≤◌, ◌+◌}
use native.Mathlib.Omega.{arith}
use lib.Dec.{eqb, eqb→eq}
use Rattle.toolbox_theory.proofs.Tests.{below, all_below, by_test}
use Rattle.scenario_theory.specs.declared.Scenario.{Scenario}
use Rattle.scenario_theory.specs.Checks.{beyond, ◌when◌, ◌otherwise◌}
use Rattle.scenario_theory.specs.Distances.{given}
use Rattle.toolbox_theory.specs.Lists.{among}
use Rattle.scenario_theory.specs.Refusal.{Limits, idriss, boore_atkinson, beyond_periods, refusal_by}
use Rattle.scenario_theory.specs.Refusal.{refusal_by_model, lacks_distance, projection_exceeds, refusal_of}
use Rattle.scenario_theory.specs.Numbers.{refusal_number, with_number}

by_place : (i : ℕ) → i < 15 → refusal_number (with_number (i + 1)) ≡ i + 1
unfolding all_below
by_place i h = eqb→eq _ _ (below 15 (λ i. eqb (refusal_number (with_number (i + 1))) (i + 1)) tt i h)

-- the number of the reason that has it
pub numbered : (k : ℕ) → (k ≡ 0 → ⊥) → k ≤ 15 → refusal_number (with_number k) ≡ k
numbered zero some h = absurd (some refl)
numbered (suc i) some h = rw suc_is at (by_place i (omega (arith, h)))
  where
    suc_is : i + 1 ≡ suc i
    suc_is = omega arith

-- what holds of both holds of the first that applies
pub number_when : (k : ℕ) (b : Bool) → k ≤ 15 → (k when b) ≤ 15
number_when k true h = h
number_when k false h = omega arith

pub number_otherwise : (j k : ℕ) → j ≤ 15 → k ≤ 15 → (j otherwise k) ≤ 15
number_otherwise zero k h g = g
number_otherwise (suc j) k h g = h

number_by : (m : Limits) (s : Scenario) → refusal_by m s ≤ 15
unfolding refusal_by
number_by m s =
    number_otherwise _ _ (number_when 2 (beyond m.magnitude s.magnitude) (omega arith))
    (number_otherwise _ _ (number_when 3 (given (m.reads s) (beyond m.distance) false) (omega arith))
    (number_otherwise _ _ (number_when 4 (beyond m.velocity s.velocity) (omega arith))
    (number_otherwise _ _ (number_when 5 (not (among m.mechanisms s.mechanism)) (omega arith))
    (number_when 6 (beyond_periods s.period) (omega arith)))))

pub refusal_numbered : (s : Scenario) → refusal_of s ≤ 15
unfolding refusal_of refusal_by_model
refusal_numbered s =
    number_otherwise _ _ (number_when 9 (lacks_distance s) (omega arith))
    (number_otherwise _ _ (number_when 13 (projection_exceeds s) (omega arith))
    (by_test (eqb s.model 1) (λ k. k ≤ 15) (λ _. number_by idriss s)
    (λ _. by_test (eqb s.model 2) (λ k. k ≤ 15) (λ _. number_by boore_atkinson s) (λ _. omega arith))))
