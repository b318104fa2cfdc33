-- What the engine computes. A change of the way of computing swaps these definitions behind their names; callers go by
-- the promises of specs/Promise, and by equal answers to equal scenarios, and never by this text.
use Rattle.std.specs.Prelude.{cond, List, ℕ, ◌^◌, ℤ, pos, Float, Ok, Err}
use Rattle.std.specs.Float.{Format, binary64}
use Rattle.std.specs.Float.Ieee.{of_int}
use Rattle.interval_theory.specs.declared.Ends.{Ends}
use Rattle.interval_theory.specs.Signed.{SmallerThan}
use Rattle.interpolation_theory.specs.declared.Step.{Step}
use Rattle.interpolation_theory.specs.Steps.{step_of}
use Rattle.scenario_theory.specs.declared.Scenario.{Scenario}
use Rattle.scenario_theory.specs.Checks.{unless_refused}
use Rattle.scenario_theory.specs.Distances.{given}
use Rattle.scenario_theory.specs.Refusal.{Limits, idriss, boore_atkinson, refusal_of}
use Rattle.scenario_theory.specs.Numbers.{with_number}
use Rattle.scenario_theory.specs.Neighbours.{has_row, neighbour_below, neighbour_above}
use Rattle.record_theory.specs.Outcome.{map_in, scenario_in, length_by, read_refusal}
use Rattle.idriss_theory.specs.Tables.{Row, table_for, row_in}
use Rattle.idriss_theory.specs.Evaluation.{median_of as idriss_median_of, sigma_of as idriss_sigma_of}
use Rattle.idriss_theory.specs.Evaluation.{median_between_of as idriss_median_between_of}
use Rattle.boore_atkinson_theory.specs.Tables.{row_for, total_for}
use Rattle.boore_atkinson_theory.specs.Evaluation.{median_of as boore_atkinson_median_of}
use Rattle.boore_atkinson_theory.specs.Evaluation.{sigma_of as boore_atkinson_sigma_of}
use Rattle.boore_atkinson_theory.specs.Evaluation.{median_between_of as boore_atkinson_median_between_of}
use Rattle.boore_atkinson_theory.specs.Evaluation.{sigma_between_of}
use Rattle.engine_theory.specs.declared.Enclosure.{Enclosure}
use Rattle.engine_theory.specs.Models.{by_model}
use Rattle.engine_theory.specs.Promise.{Answer, NextAnswer, DoublesAnswer}

-- ---- in whole numbers of units

-- by the row of the period where it has one, else between two rows
abbrev pub at_period_of : Limits → ℕ → (ℕ → Ends ℤ) → (ℕ → ℕ → Step → Ends ℤ) → Ends ℤ
at_period_of m T by_row between_rows =
    let T1 : ℕ = neighbour_below m T in
    let T2 : ℕ = neighbour_above m T in
    cond (has_row m T) (by_row T) (between_rows T1 T2 (step_of T T1 T2))

-- Idriss's median by one of its tables, from magnitude, rupture distance, velocity, mechanism and period
abbrev pub idriss_median_ends : List Row → ℕ → ℕ → ℕ → ℕ → ℕ → Ends ℤ
idriss_median_ends table M R Vs mechanism T =
    at_period_of idriss T (λ t. idriss_median_of (row_in table t) M R Vs mechanism)
    (λ t u step. idriss_median_between_of (row_in table t) (row_in table u) step M R Vs mechanism)

-- and Boore-Atkinson's, with the projection distance
abbrev pub boore_atkinson_median_ends : ℕ → ℕ → ℕ → ℕ → ℕ → Ends ℤ
boore_atkinson_median_ends M RJB Vs mechanism T =
    at_period_of boore_atkinson T (λ t. boore_atkinson_median_of (row_for t) M RJB Vs mechanism)
    (λ t u step. boore_atkinson_median_between_of (row_for t) (row_for u) step M RJB Vs mechanism)

abbrev pub boore_atkinson_sigma_ends : ℕ → ℕ → Ends ℤ
boore_atkinson_sigma_ends mechanism T =
    at_period_of boore_atkinson T (λ t. boore_atkinson_sigma_of (total_for t) mechanism)
    (λ t u step. sigma_between_of (total_for t) (total_for u) step mechanism)

-- the four ends by each model
unfoldable pub idriss_enclosure_of : ℕ → ℕ → ℕ → ℕ → ℕ → Enclosure ℤ
idriss_enclosure_of M R Vs mechanism T =
    record { median = idriss_median_ends (table_for M) M R Vs mechanism T; sigma = idriss_sigma_of T M }

unfoldable pub boore_atkinson_enclosure_of : ℕ → ℕ → ℕ → ℕ → ℕ → Enclosure ℤ
boore_atkinson_enclosure_of M RJB Vs mechanism T =
    record {
      median = boore_atkinson_median_ends M RJB Vs mechanism T;
      sigma = boore_atkinson_sigma_ends mechanism T;
    }

-- nothing is computed where the distance is absent; these ends are in no answer
abbrev pub no_ends : Enclosure ℤ
no_ends = record { median = record { low = pos 0; high = pos 0 }; sigma = record { low = pos 0; high = pos 0 } }

unfoldable pub enclosure_of : Scenario → Enclosure ℤ
enclosure_of s =
    by_model s
    (given (idriss.reads s)
    (λ R. idriss_enclosure_of s.magnitude R s.velocity s.mechanism s.period) no_ends)
    (given (boore_atkinson.reads s)
    (λ RJB. boore_atkinson_enclosure_of s.magnitude RJB s.velocity s.mechanism s.period) no_ends)

-- where k is the number of the first check that applies
unfoldable pub answer_by : ℕ → Scenario → Answer
answer_by k s = unless_refused k (Ok (enclosure_of s)) (Err (with_number k))

-- from fields
unfoldable pub answer_of : Scenario → Answer
answer_of s = answer_by (refusal_of s) s

-- from a record
unfoldable pub record_answer_of : List ℕ → Answer
record_answer_of bytes = answer_by (read_refusal bytes) (scenario_in bytes)

-- and with the record's length
unfoldable pub next_of : List ℕ → NextAnswer
next_of bytes =
    unless_refused (read_refusal bytes) (Ok (enclosure_of (scenario_in bytes), length_by (map_in bytes)))
    (Err (with_number (read_refusal bytes)))

-- ---- in doubles

-- all ends are below 2 ^ 53 in absolute value
pub record SmallEnclosure (e : Enclosure ℤ) : Type 0 where
  pub median : SmallerThan (2 ^ 53) e.median
  pub sigma : SmallerThan (2 ^ 53) e.sigma

abbrev pub SmallAnswer : Answer → Type 0
SmallAnswer (Ok e) = SmallEnclosure e
SmallAnswer (Err r) = Unit {0}

-- the format of a host's doubles
abbrev pub host_format : Format
host_format = binary64

abbrev pub double_of : ℤ → Float
double_of z = of_int host_format z

unfoldable pub doubles_of : Enclosure ℤ → Enclosure Float
doubles_of e = record {
  median = record { low = double_of e.median.low; high = double_of e.median.high };
  sigma = record { low = double_of e.sigma.low; high = double_of e.sigma.high };
}

unfoldable pub in_doubles : Answer → DoublesAnswer
in_doubles (Ok e) = Ok (doubles_of e)
in_doubles (Err r) = Err r
