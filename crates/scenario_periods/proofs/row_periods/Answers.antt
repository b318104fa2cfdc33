use mathlib.Core.Path.{◌≡◌, sym, ap, subst, ◌∙◌, refl}
use Rattle.std.specs.Prelude.{ℕ, Result, Ok}
use Rattle.std.proofs.Common.{rules}
use Rattle.toolbox_theory.proofs.Results.{passed_on}
use Rattle.scenario_theory.specs.declared.Basis.{Basis}
use Rattle.scenario_theory.specs.declared.Refusal.{Refusal}
use Rattle.scenario_theory.specs.Neighbours.{row_periods_of}
use Rattle.scenario_theory.specs.Accepted.{periods_on, InTables, check_of, plain_scenario}
use Rattle.scenario_theory.proofs.CheckedLaws.{looks_up}
use Rattle.scenario_theory.proofs.PeriodLaws.{first_in_table}
use Rattle.scenario_periods.proofs.row_periods.Goals as goal

-- what the checks have found holds of what they answer
module _ (model T : ℕ) {r : Result Basis Refusal} (answered : r ≡ check_of (plain_scenario model T)) where
  found : {t : Result Basis Refusal} → r ≡ t → InTables t × (periods_on t ≡ row_periods_of model T)
  found e = subst (λ t. InTables t × (periods_on t ≡ row_periods_of model T)) (sym answered ∙ e) (looks_up model T)

pub returns-in_err-place : goal.returns-in_err-place
returns-in_err-place c = passed_on c.from_residual.ensures ∙ (found _ _ c.check.ensures c.in_err-place.was).1

pub last-requires : goal.last-requires
last-requires c = (found _ _ c.check.ensures (c.in_ok-place.was ∙ ap Ok c.in-Idriss.is)).0

pub last-requires-in-BooreAtkinson : goal.last-requires-in-BooreAtkinson
last-requires-in-BooreAtkinson c = (found _ _ c.check.ensures (c.in_ok-place.was ∙ ap Ok c.in-BooreAtkinson.is)).0

pub idriss_period-requires : goal.idriss_period-requires
idriss_period-requires c =
    rw c.first.ensures
    (first_in_table c.in-Idriss.place (found _ _ c.check.ensures (c.in_ok-place.was ∙ ap Ok c.in-Idriss.is)).0)

pub idriss_period-requires-in-Idriss : goal.idriss_period-requires-in-Idriss
idriss_period-requires-in-Idriss c =
    rw c.last.ensures (found _ _ c.check.ensures (c.in_ok-place.was ∙ ap Ok c.in-Idriss.is)).0

pub boore_atkinson_period-requires : goal.boore_atkinson_period-requires
boore_atkinson_period-requires c =
    rw c.first-in-BooreAtkinson.ensures
    (first_in_table c.in-BooreAtkinson.place
    (found _ _ c.check.ensures (c.in_ok-place.was ∙ ap Ok c.in-BooreAtkinson.is)).0)

pub boore_atkinson_period-requires-in-BooreAtkinson : goal.boore_atkinson_period-requires-in-BooreAtkinson
boore_atkinson_period-requires-in-BooreAtkinson c =
    rw c.last-in-BooreAtkinson.ensures
    (found _ _ c.check.ensures (c.in_ok-place.was ∙ ap Ok c.in-BooreAtkinson.is)).0

pub returns-in-Idriss : goal.returns-in-Idriss
returns-in-Idriss c =
    search (rules, (found _ _ c.check.ensures (c.in_ok-place.was ∙ ap Ok c.in-Idriss.is)).1)

pub returns-in-BooreAtkinson : goal.returns-in-BooreAtkinson
returns-in-BooreAtkinson c =
    search (rules, (found _ _ c.check.ensures (c.in_ok-place.was ∙ ap Ok c.in-BooreAtkinson.is)).1)
