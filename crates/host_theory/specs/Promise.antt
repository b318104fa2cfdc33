-- What is promised of the structs that C is told, whatever the engine computes: demand 3 once more, by their numbers
-- and ends, demand 2 for reading and writing, W-201 for the rows and W-203 for millionths.
use Rattle.std.specs.Prelude.{◌≡◌, not, ◌||◌, List, [], ◌∷◌, ◌⊎◌, ℕ, ◌≤◌, eqb, Float, length}
use Rattle.scenario_theory.specs.declared.Scenario.{Scenario}
use Rattle.scenario_theory.specs.Checks.{◌when◌, ◌otherwise◌}
use Rattle.scenario_theory.specs.Refusal.{beyond_periods}
use Rattle.record_theory.specs.Layout.{record_of}
use Rattle.record_theory.specs.Outcome.{map_in, scenario_in, length_by, read_refusal, write_refusal}
use Rattle.engine_theory.specs.declared.FlatAnswer.{FlatAnswer}
use Rattle.engine_theory.specs.Promise.{AllEqual}
use Rattle.engine_theory.specs.Models.{median}
use Rattle.engine_theory.specs.Flat.{ends_in, FlatPromise}
use Rattle.millionths_theory.specs.Promise.{MillionthsEnds}
use Rattle.host_theory.specs.declared.HostDoubles.{HostDoubles}
use Rattle.host_theory.specs.declared.HostBounds.{HostBounds}
use Rattle.host_theory.specs.declared.HostPeriods.{HostPeriods}
use Rattle.host_theory.specs.declared.HostReading.{HostReading}
use Rattle.host_theory.specs.declared.HostWriting.{HostWriting}
use Rattle.host_theory.specs.Told.{scenario_from, no_fields}

-- "Hosts with binary64 get the four ends as doubles", in the same order
abbrev pub doubles_in : HostDoubles → List Float
doubles_in d = d.median_low ∷ d.median_high ∷ d.sigma_low ∷ d.sigma_high ∷ []

-- of an answer, what is promised of its plain struct
abbrev pub HostAnswerPromise : ℕ → Scenario → FlatAnswer → Type 0
HostAnswerPromise k s a = FlatPromise k s a

-- the same answer in doubles, "that equal the whole numbers, nothing rounded"
pub record HostDoublesPromise (k : ℕ) (s : Scenario) (a : FlatAnswer) (d : HostDoubles) : Type 0 where
  pub whole : HostAnswerPromise k s a
  pub number : d.number ≡ a.number
  pub equal : AllEqual (doubles_in d) (ends_in a)

-- a median in millionths of g, where k is the number of the first check that applies: what the model of s gives lies
-- between the two, and with a refusal they are zeros (W-203)
pub record HostBoundsPromise (k : ℕ) (s : Scenario) (m : HostBounds) : Type 0 where
  pub number : m.number ≡ k
  pub between : k ≡ 0 → MillionthsEnds (median s) m.low m.high
  pub zeros : (k ≡ 0 → ⊥) → (m.low ≡ 0) × (m.high ≡ 0)

-- a flag is 0, with 0 for its number, or 1
abbrev pub PlainFlag : ℕ → ℕ → Type 0
PlainFlag flag number = ((flag ≡ 0) × (number ≡ 0)) ⊎ (flag ≡ 1)

-- "Reading hands back the scenario", with its record's length; "A refusal returns its number only"
pub record HostReadingPromise (bytes : List ℕ) (r : HostReading) : Type 0 where
  pub number : r.number ≡ read_refusal bytes
  pub scenario : read_refusal bytes ≡ 0 → scenario_from r.scenario ≡ scenario_in bytes
  pub rupture : PlainFlag r.scenario.rupture_present r.scenario.rupture_distance
  pub projection : PlainFlag r.scenario.projection_present r.scenario.projection_distance
  pub length : read_refusal bytes ≡ 0 → r.length ≡ length_by (map_in bytes)
  pub zeros : (read_refusal bytes ≡ 0 → ⊥) → (r.scenario ≡ no_fields) × (r.length ≡ 0)

-- Writing "returns the record's length"; "A refusal returns its number only"
pub record HostWritingPromise (x : Scenario) (lent : List ℕ) (r : HostWriting) : Type 0 where
  pub number : r.number ≡ write_refusal x lent
  pub written : write_refusal x lent ≡ 0 → r.length ≡ length (record_of x)
  pub zero : (write_refusal x lent ≡ 0 → ⊥) → r.length ≡ 0

-- the first of the checks 1 and 6 ('What is turned away') that a model and a period fail, 0 where they fail neither
abbrev pub rows_refusal : ℕ → ℕ → ℕ
rows_refusal model T = 1 when not (eqb model 1 || eqb model 2) otherwise 6 when beyond_periods T

-- the rows at T (W-201), where k is the number of the first check that applies: T lies from the one period to the
-- other, but that 0 is peak acceleration; with a refusal they are zeros. Which rows they are, `row_periods_of` says
pub record HostRowsPromise (k T : ℕ) (r : HostPeriods) : Type 0 where
  pub number : r.number ≡ k
  pub below : r.number ≡ 0 → 1 ≤ T → r.lower ≤ T
  pub above : r.number ≡ 0 → 1 ≤ T → T ≤ r.upper
  pub zeros : (r.number ≡ 0 → ⊥) → (r.lower ≡ 0) × (r.upper ≡ 0)
