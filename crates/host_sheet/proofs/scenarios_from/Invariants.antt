-- The places so far are converted.
use Rattle.std.proofs.Common.{◌≡◌}
use Rattle.sheet_theory.specs.Evaluation.{filled}
use Rattle.host_theory.specs.Told.{scenario_from, no_fields}
use Rattle.host_sheet.proofs.scenarios_from.Given as goal

abbrev pub invariant-loop-i : goal.invariant-loop-i
invariant-loop-i l = l.scenarios ≡ filled scenario_from (scenario_from no_fields) l.i l.fn.places
