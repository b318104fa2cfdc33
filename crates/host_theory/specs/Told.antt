-- What C is told beside the plain structs of an answer and of a sheet, and what it tells: structs for the engine's
-- scenario and for those of a sheet, for doubles, millionths, rows, readings and writings. An enum does not pass, so a
-- refused one is the number with zeros, and an accepted one has the number 0.
use Rattle.std.specs.Prelude.{cond, List, map, ℕ, eqb, Float, Option, Some, None, Result, Ok, Err}
use Rattle.std.specs.Float.{binary64}
use Rattle.std.specs.Float.Ieee.{of_bits}
use Rattle.scenario_theory.specs.declared.Scenario.{Scenario}
use Rattle.scenario_theory.specs.declared.RowPeriods.{RowPeriods}
use Rattle.scenario_theory.specs.declared.Refusal.{Refusal}
use Rattle.scenario_theory.specs.Distances.{rupture_number, rupture_of, projection_number, projection_of}
use Rattle.scenario_theory.specs.Numbers.{refusal_number}
use Rattle.record_theory.specs.Outcome.{Reading, Writing}
use Rattle.engine_theory.specs.Promise.{DoublesAnswer}
use Rattle.millionths_theory.specs.Promise.{MillionthsAnswer}
use Rattle.host_theory.specs.declared.HostScenario.{HostScenario}
use Rattle.host_theory.specs.declared.HostScenarios.{HostScenarios}
use Rattle.host_theory.specs.declared.Flagged.{Flagged}
use Rattle.host_theory.specs.declared.HostDoubles.{HostDoubles}
use Rattle.host_theory.specs.declared.HostBounds.{HostBounds}
use Rattle.host_theory.specs.declared.HostPeriods.{HostPeriods}
use Rattle.host_theory.specs.declared.HostReading.{HostReading}
use Rattle.host_theory.specs.declared.HostWriting.{HostWriting}

-- a distance by its flag and its number (W-202): absent with the flag 0, whatever the number; with any other it stands
abbrev pub flagged : ℕ → ℕ → Option ℕ
flagged flag number = cond (eqb flag 0) None (Some number)

-- and back: the flag 1 and the number, or zeros
abbrev pub flagged_of : Option ℕ → Flagged
flagged_of None = record { present = 0; distance = 0 }
flagged_of (Some number) = record { present = 1; distance = number }

-- document 01, 'The scenario'
abbrev pub scenario_from : HostScenario → Scenario
scenario_from s =
    record {
      model = s.model;
      magnitude = s.magnitude;
      rupture = rupture_of (flagged s.rupture_present s.rupture_distance);
      velocity = s.velocity;
      mechanism = s.mechanism;
      period = s.period;
      projection = projection_of (flagged s.projection_present s.projection_distance);
    }

-- and back
abbrev pub fields_of : Scenario → HostScenario
fields_of x =
    record {
      model = x.model;
      magnitude = x.magnitude;
      rupture_present = (flagged_of (rupture_number x.rupture)).present;
      rupture_distance = (flagged_of (rupture_number x.rupture)).distance;
      velocity = x.velocity;
      mechanism = x.mechanism;
      period = x.period;
      projection_present = (flagged_of (projection_number x.projection)).present;
      projection_distance = (flagged_of (projection_number x.projection)).distance;
    }

-- the fields beside a refusal
abbrev pub no_fields : HostScenario
no_fields = record {
  model = 0;
  magnitude = 0;
  rupture_present = 0;
  rupture_distance = 0;
  velocity = 0;
  mechanism = 0;
  period = 0;
  projection_present = 0;
  projection_distance = 0;
}

-- the scenarios of a sheet (W-204)
abbrev pub scenarios_from : HostScenarios → List Scenario
scenarios_from s = map scenario_from s.places

-- the double 0, whose bits are all 0
abbrev pub zero_double : Float
zero_double = of_bits binary64 0

-- "either all four ends as doubles, or the refusal number"
abbrev pub told_doubles : DoublesAnswer → HostDoubles
told_doubles (Ok d) = record {
  number = 0;
  median_low = d.median.low;
  median_high = d.median.high;
  sigma_low = d.sigma.low;
  sigma_high = d.sigma.high;
}
told_doubles (Err r) = record {
  number = refusal_number r;
  median_low = zero_double;
  median_high = zero_double;
  sigma_low = zero_double;
  sigma_high = zero_double;
}

-- "whole numbers a and b of millionths of g", or the refusal number (W-203)
abbrev pub told_bounds : MillionthsAnswer → HostBounds
told_bounds (Ok m) = record { number = 0; low = m.low; high = m.high }
told_bounds (Err r) = record { number = refusal_number r; low = 0; high = 0 }

-- the periods of the rows that a median rests on (W-201)
abbrev pub told_periods : Result RowPeriods Refusal → HostPeriods
told_periods (Ok p) = record { number = 0; lower = p.lower; upper = p.upper }
told_periods (Err r) = record { number = refusal_number r; lower = 0; upper = 0 }

-- "Reading hands back the scenario and the rest of the caller's bytes": the rest begins at the record's length
abbrev pub told_reading : Reading → HostReading
told_reading (Ok x) = record { number = 0; scenario = fields_of x.0; length = x.1 }
told_reading (Err r) = record { number = refusal_number r; scenario = no_fields; length = 0 }

-- "it returns the record's length"
abbrev pub told_writing : Writing → HostWriting
told_writing (Ok n) = record { number = 0; length = n }
told_writing (Err r) = record { number = refusal_number r; length = 0 }
