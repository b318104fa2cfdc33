-- What the private functions of reading and writing say to each other; no promise to callers rests on reading it.
use Rattle.std.specs.Prelude.{◌≡◌, not, List, ℕ, ◌≤◌, eqb, ltb, length, Result, Ok, Err}
use Rattle.scenario_theory.specs.declared.Scenario.{Scenario}
use Rattle.scenario_theory.specs.declared.Basis.{Basis}
use Rattle.scenario_theory.specs.declared.Refusal.{Refusal}
use Rattle.scenario_theory.specs.Checks.{◌when◌, ◌otherwise◌, unless_refused}
use Rattle.scenario_theory.specs.Distances.{rupture_number, projection_number, is_absent}
use Rattle.scenario_theory.specs.Refusal.{refusal_of}
use Rattle.scenario_theory.specs.Numbers.{with_number}
use Rattle.scenario_theory.specs.Accepted.{basis_of}
use Rattle.record_theory.specs.Layout.{layout, stands, absent_written}
use Rattle.record_theory.specs.Outcome.{Reading, map_in, scenario_in, length_by, map_refusal, read_refusal}

-- reading's checks before the fields are taken, and those of the fields
unfoldable pub front_refusal : List ℕ → ℕ
front_refusal s =
    7 when eqb (length s) 0 otherwise
    map_refusal (map_in s) otherwise
    7 when ltb (length s) (length_by (map_in s))

unfoldable pub field_refusal : ℕ → Scenario → ℕ
field_refusal m x = 11 when absent_written layout m x otherwise refusal_of x

-- the distances of x stand where the map m says so
pub record StandBy (m : ℕ) (x : Scenario) : Type 0 where
  pub rupture : stands 2 m ≡ not (is_absent (rupture_number x.rupture))
  pub projection : stands 6 m ≡ not (is_absent (projection_number x.projection))

-- what an answer to the scenario rests on, as the last check has it
unfoldable pub field_check : ℕ → Scenario → Result Basis Refusal
field_check m x = unless_refused (field_refusal m x) (basis_of x) (Err (with_number (field_refusal m x)))

-- what is read, with that
abbrev pub BasedReading : Type 0
BasedReading = Result (Scenario × ℕ × Basis) Refusal

abbrev pub based_reading : Scenario → ℕ → Result Basis Refusal → BasedReading
based_reading x n (Ok b) = Ok (x, n, b)
based_reading x n (Err e) = Err e

unfoldable pub based_reading_of : List ℕ → BasedReading
based_reading_of s =
    let x : Scenario = scenario_in s in
    unless_refused (read_refusal s) (based_reading x (length_by (map_in s)) (basis_of x))
    (Err (with_number (read_refusal s)))

-- the same without it
abbrev pub reading_in : BasedReading → Reading
reading_in (Ok x) = Ok (x.0, x.1)
reading_in (Err e) = Err e

-- the map byte at the front of s passes, and there are bytes for the fields that it calls for
pub record Complete (s : List ℕ) : Type 0 where
  pub passes : map_refusal (map_in s) ≡ 0
  pub room : length_by (map_in s) ≤ length s
