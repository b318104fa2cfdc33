-- Which scenarios each model takes, and the number of the first check that a scenario fails. Document 01, 'The
-- scenario' and 'What is turned away'; document 02, W-201, for the period, and W-202 for the distances.
use Rattle.std.specs.Prelude.{Bool, false, not, cond, ◌&&◌, ◌||◌, List, [], ◌∷◌, ℕ, eqb, Option}
use Rattle.toolbox_theory.specs.Lists.{among, ◌without◌}
use Rattle.scenario_theory.specs.declared.Scenario.{Scenario}
use Rattle.scenario_theory.specs.Checks.{Range, ◌to◌, beyond, ◌when◌, ◌otherwise◌}
use Rattle.scenario_theory.specs.Distances.{rupture_number, projection_number, is_absent, given, exceeds}

-- a model's column of the table in 'The scenario': the distance that it reads, as "each model must read its own"
-- (W-202); magnitude in 0.01, distance in 0.01 km, velocity in 0.1 m/s, the codes of mechanisms, and the tabled periods
-- in 0.001 s
pub record Limits : Type 0 where
  pub reads : Scenario → Option ℕ
  pub magnitude : Range
  pub distance : Range
  pub velocity : Range
  pub mechanisms : List ℕ
  pub periods : List ℕ

-- "Idriss periods"
abbrev pub idriss_periods : List ℕ
idriss_periods =
    10 ∷ 20 ∷ 30 ∷ 40 ∷ 50 ∷ 75 ∷ 100 ∷ 150 ∷ 200 ∷ 250 ∷ 300 ∷ 400 ∷ 500 ∷ 750 ∷ 1_000 ∷ 1_500 ∷ 2_000 ∷ 3_000 ∷
    4_000 ∷ 5_000 ∷ 7_500 ∷ 10_000 ∷ []

-- "Idriss (model 1)"; its distance is "to the rupture"
abbrev pub idriss : Limits
idriss =
    record {
      reads = λ s. rupture_number s.rupture;
      magnitude = 450 to 790;
      distance = 0 to 17_500;
      velocity = 4_500 to 20_000;
      mechanisms = 0 ∷ 1 ∷ 2 ∷ 3 ∷ 4 ∷ [];
      periods = idriss_periods;
    }

-- "Boore-Atkinson (model 2)"; its distance is "to its surface projection", and it "has the same" periods "without 40"
abbrev pub boore_atkinson : Limits
boore_atkinson =
    record {
      reads = λ s. projection_number s.projection;
      magnitude = 500 to 800;
      distance = 0 to 19_999;
      velocity = 1_800 to 13_000;
      mechanisms = 0 ∷ 1 ∷ 2 ∷ 3 ∷ 9 ∷ [];
      periods = idriss_periods without 40;
    }

-- the periods that both models answer beside 0: "A whole number of thousandths from 10 to 10000" (W-201)
abbrev pub answered_periods : Range
answered_periods = 10 to 10_000

-- "Refusal 6 is left with 1 to 9 and above 10000" (W-201)
unfoldable pub beyond_periods : ℕ → Bool
beyond_periods T = not (eqb T 0) && beyond answered_periods T

-- 'What is turned away', 2 to 6: the first that applies to s by the limits of its model, 0 where none does; "The limit
-- of refusal 3 is applied to the distance that the model reads" (W-202)
unfoldable pub refusal_by : Limits → Scenario → ℕ
refusal_by m s =
    2 when beyond m.magnitude s.magnitude otherwise
    3 when given (m.reads s) (beyond m.distance) false otherwise
    4 when beyond m.velocity s.velocity otherwise
    5 when not (among m.mechanisms s.mechanism) otherwise
    6 when beyond_periods s.period

-- and 1 to 6: 1 where the model is "neither 1 nor 2"
unfoldable pub refusal_by_model : Scenario → ℕ
refusal_by_model s =
    cond (eqb s.model 1) (refusal_by idriss s) (cond (eqb s.model 2) (refusal_by boore_atkinson s) 1)

-- "Idriss needs bit 2 and Boore-Atkinson bit 6, else 9"; "A model that is neither 1 nor 2 needs no distance" (W-202)
unfoldable pub lacks_distance : Scenario → Bool
lacks_distance s =
    (eqb s.model 1 && is_absent (idriss.reads s)) || (eqb s.model 2 && is_absent (boore_atkinson.reads s))

-- "both stand and the projection distance exceeds the rupture distance" (W-202)
unfoldable pub projection_exceeds : Scenario → Bool
projection_exceeds s = exceeds (projection_number s.projection) (rupture_number s.rupture)

-- the numbers of answering, "9 for the distance", "13 .. after 9 for the distance and just before 1" (W-202), and 1 to
-- 6: the first that applies to s, 0 where none does; reading and writing have them in the same order
unfoldable pub refusal_of : Scenario → ℕ
refusal_of s =
    9 when lacks_distance s otherwise
    13 when projection_exceeds s otherwise
    refusal_by_model s
