-- What the probes answer, for any numbers: the ends of logarithm, root and models where the arguments are taken, and
-- none elsewhere.
use Rattle.std.specs.Prelude.{Bool, false, cond, ℕ, ◌-◌, ◌^◌, eqb, leb, ltb, pos, ℤ, Option, Some, None}
use Rattle.interval_theory.specs.declared.Ends.{Ends}
use Rattle.logarithm_theory.specs.Evaluation.{ln_of, root_of}
use Rattle.scenario_theory.specs.declared.Scenario.{Scenario}
use Rattle.scenario_theory.specs.declared.Place.{Place}
use Rattle.scenario_theory.specs.declared.Place.TheVariants as P
use Rattle.scenario_theory.specs.Refusal.{refusal_of}
use Rattle.scenario_theory.specs.Rows.{row_count, idriss_place, boore_atkinson_place}
use Rattle.scenario_theory.specs.Accepted.{scenario_with}
use Rattle.idriss_theory.specs.Rows.{row_at}
use Rattle.idriss_theory.specs.Evaluation.{median_of, sigma_of}
use Rattle.boore_atkinson_theory.specs.Rows as rows
use Rattle.boore_atkinson_theory.specs.Evaluation as second
use Rattle.probes.specs.declared.Probed.{Probed}
use Rattle.probes.specs.declared.ProbedEnds.{ProbedEnds}
use Rattle.probes.specs.declared.ProbedPlace.{ProbedPlace}

-- ---- logarithm and root

abbrev pub no_ln : Probed
no_ln = record { low = 1; high = 0 }

abbrev pub told_ln : Ends ℕ → Probed
told_ln e = record { low = e.low; high = e.high }

-- the ends of ln(a/b), unless b is 0, a is below b or a is 2^29 or more
unfoldable pub probed_ln : ℕ → ℕ → Probed
probed_ln a b =
    cond (eqb b 0) no_ln
    (cond (ltb a b) no_ln (cond (leb 536_870_912 a) no_ln (told_ln (ln_of a b))))

-- the root's lower value at fineness 131072; where x is 2^29 or more, 2^64 − 1
unfoldable pub probed_root : ℕ → ℕ
probed_root x = cond (leb 536_870_912 x) (2 ^ 64 - 1) (root_of x)

-- ---- the models

abbrev pub no_ends : ProbedEnds
no_ends = record { low = pos 1; high = pos 0 }

abbrev pub told : Ends ℤ → ProbedEnds
told e = record { low = e.low; high = e.high }

-- scenarios of each model that have its own distance alone: magnitude, distance, velocity, mechanism and period
abbrev pub idriss_scenario : ℕ → ℕ → ℕ → ℕ → ℕ → Scenario
idriss_scenario M d Vs mechanism T = scenario_with 1 M (Some (record { 0 = d })) Vs mechanism T None

abbrev pub boore_atkinson_scenario : ℕ → ℕ → ℕ → ℕ → ℕ → Scenario
boore_atkinson_scenario M d Vs mechanism T = scenario_with 2 M None Vs mechanism T (Some (record { 0 = d }))

-- k is a row, and s is accepted
unfoldable pub is_taken : ℕ → Scenario → Bool
is_taken k s = cond (leb row_count k) false (eqb (refusal_of s) 0)

-- e where they are
abbrev pub where_taken : ℕ → Scenario → Ends ℤ → ProbedEnds
where_taken k s e = cond (is_taken k s) (told e) no_ends

unfoldable pub probed_idriss : ℕ → ℕ → ℕ → ℕ → ℕ → ℕ → ProbedEnds
probed_idriss table k m d v mechanism =
    where_taken k (idriss_scenario m d v mechanism 0) (median_of (row_at (eqb table 3) k) m d v mechanism)

unfoldable pub probed_idriss_sigma : ℕ → ℕ → ProbedEnds
probed_idriss_sigma period m = where_taken 0 (idriss_scenario m 0 7_600 0 period) (sigma_of period m)

unfoldable pub probed_boore_atkinson : ℕ → ℕ → ℕ → ℕ → ℕ → ProbedEnds
probed_boore_atkinson k m d v mechanism =
    where_taken k (boore_atkinson_scenario m d v mechanism 0) (second.median_of (rows.row_at k) m d v mechanism)

unfoldable pub probed_boore_atkinson_sigma : ℕ → ℕ → ProbedEnds
probed_boore_atkinson_sigma k mechanism =
    where_taken k (boore_atkinson_scenario 700 0 7_600 mechanism 0) (second.sigma_of (rows.total_at k) mechanism)

unfoldable pub probed_nonlinear : ℕ → ℕ → ℕ → ℕ → ProbedEnds
probed_nonlinear k v low high =
    cond (ltb high low) no_ends
    (where_taken k (boore_atkinson_scenario 700 0 v 0 0)
    (second.nonlinear_ends_of (rows.row_at k).site v (record { low = low; high = high })))

-- ---- where a period stands

abbrev pub told_place : Option Place → ProbedPlace
told_place (Some (P.Row k)) = record { kind = 0; row = k }
told_place (Some (P.Between k)) = record { kind = 1; row = k }
told_place None = record { kind = 2; row = 0 }

unfoldable pub probed_place : ℕ → ℕ → ProbedPlace
probed_place model period = told_place (cond (eqb model 1) (idriss_place period) (boore_atkinson_place period))
