use mathlib.Core.Path.{sym, ◌∙◌}
use Rattle.toolbox_theory.proofs.Results.{passed_on}
use Rattle.scenario_theory.proofs.CheckedLaws.{passed}
use Rattle.scenario_theory.proofs.NumberLaws.{refusal_numbered}
use Rattle.engine_theory.specs.Evaluation.{answer_of}
use Rattle.engine_theory.proofs.Laws.{answers, fields_refused, fields_enclosed}
use Rattle.engine.proofs.answer_fields.Goals as goal

pub returns-in_err-basis-clause-value : goal.returns-in_err-basis-clause-value
returns-in_err-basis-clause-value c =
    passed_on c.from_residual.ensures ∙ fields_refused _ (sym c.check.ensures ∙ c.in_err-basis.was)

pub returns-in_err-basis-clause-answer_promise : goal.returns-in_err-basis-clause-answer_promise
unfolding answer_of
returns-in_err-basis-clause-answer_promise c =
    (answers _ _ (λ e. e) (refusal_numbered _) (passed_on c.from_residual.ensures ∙
    fields_refused _ (sym c.check.ensures ∙ c.in_err-basis.was))).1

pub on_basis-requires : goal.on_basis-requires
on_basis-requires c = (passed _ (sym c.check.ensures ∙ c.in_ok-basis.was)).placed

pub returns-clause-value : goal.returns-clause-value
returns-clause-value c = fields_enclosed _ (sym c.check.ensures ∙ c.in_ok-basis.was) c.on_basis.ensures

pub returns-clause-answer_promise : goal.returns-clause-answer_promise
unfolding answer_of
returns-clause-answer_promise c =
    (answers _ _ (λ e. e) (refusal_numbered _)
    (fields_enclosed _ (sym c.check.ensures ∙ c.in_ok-basis.was) c.on_basis.ensures)).1
