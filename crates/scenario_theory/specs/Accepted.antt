-- What the checks of a scenario come to, for the code alone: the number of the first that it fails, or what an answer
-- rests on.
use Rattle.std.specs.Prelude.{◌≡◌, true, false, not, cond, List, [], ◌∷◌, ℕ, ◌≤◌, eqb, Option, Some, None}
use Rattle.std.specs.Prelude.{Result, Ok, Err}
use Rattle.toolbox_theory.specs.Lists.{among}
use Rattle.scenario_theory.specs.declared.Scenario.{Scenario}
use Rattle.scenario_theory.specs.declared.RuptureDistance.{RuptureDistance}
use Rattle.scenario_theory.specs.declared.ProjectionDistance.{ProjectionDistance}
use Rattle.scenario_theory.specs.declared.ModelLimits.{ModelLimits}
use Rattle.scenario_theory.specs.declared.Place.{Place}
use Rattle.scenario_theory.specs.declared.Basis.{Basis}
use Rattle.scenario_theory.specs.declared.Basis.TheVariants as B
use Rattle.scenario_theory.specs.declared.Refusal.{Refusal}
use Rattle.scenario_theory.specs.declared.Refusal.TheVariants as E
use Rattle.scenario_theory.specs.declared.RowPeriods.{RowPeriods}
use Rattle.scenario_theory.specs.Checks.{◌to◌, beyond, ◌when◌, ◌otherwise◌, unless_refused}
use Rattle.scenario_theory.specs.Refusal.{Limits, idriss, boore_atkinson, beyond_periods, refusal_by, refusal_of}
use Rattle.scenario_theory.specs.Numbers.{with_number, check_with}
use Rattle.scenario_theory.specs.Rows.{idriss_row, boore_atkinson_row, place_by, row_list, periods_at, InTable}

-- the scenario that has the fields
abbrev pub scenario_with :
    ℕ → ℕ → Option RuptureDistance → ℕ → ℕ → ℕ → Option ProjectionDistance → Scenario
scenario_with model magnitude rupture velocity mechanism period projection =
    record {
      model = model;
      magnitude = magnitude;
      rupture = rupture;
      velocity = velocity;
      mechanism = mechanism;
      period = period;
      projection = projection;
    }

-- ---- the checks

-- the limits of a model as the code has them, with the mechanism beside 0 to 3
abbrev pub code_limits : Limits → ℕ → ModelLimits
code_limits m mechanism =
    record {
      magnitude = (m.magnitude.low, m.magnitude.high);
      distance = m.distance.high;
      velocity = (m.velocity.low, m.velocity.high);
      mechanism = mechanism;
    }

-- 2 to 5 by such limits, where R is the distance that the model reads
unfoldable pub limit_number : ModelLimits → Scenario → ℕ → ℕ
limit_number l s R =
    2 when beyond (l.magnitude.0 to l.magnitude.1) s.magnitude otherwise
    3 when beyond (0 to l.distance) R otherwise
    4 when beyond (l.velocity.0 to l.velocity.1) s.velocity otherwise
    5 when not (among (0 ∷ 1 ∷ 2 ∷ 3 ∷ l.mechanism ∷ []) s.mechanism)

unfoldable pub limit_check : ModelLimits → Scenario → ℕ → Result (Unit {0}) Refusal
limit_check l s R = check_with (limit_number l s R)

-- 2 to 6 by the limits of a model, with what an answer rests on by the place of the period
unfoldable pub check_by : Limits → (ℕ → ℕ) → (Place → Basis) → Scenario → Result Basis Refusal
check_by m row basis s =
    unless_refused (refusal_by m s) (Ok (basis (place_by m row s.period))) (Err (with_number (refusal_by m s)))

-- the last of them, by a look-up
abbrev pub based_on : (Place → Basis) → Option Place → Result Basis Refusal
based_on basis (Some p) = Ok (basis p)
based_on basis None = Err E.Period

-- what an answer at a period rests on, by each model: there is nothing where its distance is absent, as 9 says
abbrev pub on_rupture : Option RuptureDistance → ℕ → Result Basis Refusal
on_rupture None T = Err E.MissingField
on_rupture (Some d) T = Ok (B.Idriss d (place_by idriss idriss_row T))

abbrev pub on_projection : Option ProjectionDistance → ℕ → Result Basis Refusal
on_projection None T = Err E.MissingField
on_projection (Some d) T = Ok (B.BooreAtkinson d (place_by boore_atkinson boore_atkinson_row T))

-- an answer to s, whose model is 1, Idriss, or 2, Boore-Atkinson
unfoldable pub basis_of : Scenario → Result Basis Refusal
basis_of s = cond (eqb s.model 1) (on_rupture s.rupture s.period) (on_projection s.projection s.period)

-- 9 for the distance, 13, and 1 to 6, with what the answer rests on
unfoldable pub check_of : Scenario → Result Basis Refusal
check_of s = unless_refused (refusal_of s) (basis_of s) (Err (with_number (refusal_of s)))

-- the periods of the rows that they have found, and that the tables have these
abbrev pub periods_on : Result Basis Refusal → Result RowPeriods Refusal
periods_on (Ok (B.Idriss d p)) = Ok (periods_at (row_list 1) p)
periods_on (Ok (B.BooreAtkinson d p)) = Ok (periods_at (row_list 2) p)
periods_on (Err e) = Err e

abbrev pub InTables : Result Basis Refusal → Type 0
InTables (Ok (B.Idriss d p)) = InTable p
InTables (Ok (B.BooreAtkinson d p)) = InTable p
InTables (Err e) = Unit {0}

-- a scenario that is accepted but for its model and its period
abbrev pub plain_scenario : ℕ → ℕ → Scenario
plain_scenario model T = scenario_with model 700 (Some (record { 0 = 0 })) 7_600 0 T (Some (record { 0 = 0 }))

-- ---- what is known where they pass

-- magnitude, distance, velocity, mechanism and period are within the limits of a model
pub record Within (m : Limits) (M R Vs mechanism T : ℕ) : Type 0 where
  pub magnitude_low : m.magnitude.low ≤ M
  pub magnitude_high : M ≤ m.magnitude.high
  pub distance_high : R ≤ m.distance.high
  pub velocity_low : m.velocity.low ≤ Vs
  pub velocity_high : Vs ≤ m.velocity.high
  pub mechanism_known : among m.mechanisms mechanism ≡ true
  pub period_answered : beyond_periods T ≡ false

-- and p is the place of the period by the rows of the model's tables
pub record Placed (m : Limits) (row : ℕ → ℕ) (M R Vs mechanism T : ℕ) (p : Place) : Type 0 where
  pub within : Within m M R Vs mechanism T
  pub place : p ≡ place_by m row T

-- they are those of what an answer rests on
abbrev pub PlacedOn : ℕ → ℕ → ℕ → ℕ → Basis → Type 0
PlacedOn M Vs mechanism T (B.Idriss d p) = Placed idriss idriss_row M d.0 Vs mechanism T p
PlacedOn M Vs mechanism T (B.BooreAtkinson d p) = Placed boore_atkinson boore_atkinson_row M d.0 Vs mechanism T p

-- b has the model of s, and the distance that this reads
abbrev pub BasisIn : Scenario → Basis → Type 0
BasisIn s (B.Idriss d p) = (s.model ≡ 1) × (idriss.reads s ≡ Some d.0)
BasisIn s (B.BooreAtkinson d p) = (s.model ≡ 2) × (boore_atkinson.reads s ≡ Some d.0)

-- s is accepted, and an answer to it rests on b
pub record RestsOn (s : Scenario) (b : Basis) : Type 0 where
  pub accepted : refusal_of s ≡ 0
  pub basis : BasisIn s b
  pub placed : PlacedOn s.magnitude s.velocity s.mechanism s.period b
