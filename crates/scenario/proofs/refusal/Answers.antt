use mathlib.Core.Path.{sym, ◌∙◌}
use Rattle.scenario_theory.proofs.CheckedLaws.{passed, failed}
use Rattle.scenario.proofs.refusal.Goals as goal

pub returns-in-Ok : goal.returns-in-Ok
returns-in-Ok c = sym (passed _ (sym c.check.ensures ∙ c.in-Ok.is)).accepted

pub returns-in-Err : goal.returns-in-Err
returns-in-Err c = c.into.ensures ∙ (failed _ (sym c.check.ensures ∙ c.in-Err.is)).number
