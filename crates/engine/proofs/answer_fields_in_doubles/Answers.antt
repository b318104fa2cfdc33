use mathlib.Core.Path.{sym, subst, ◌∙◌}
use Rattle.toolbox_theory.proofs.Results.{passed_on}
use Rattle.engine_theory.specs.Evaluation.{answer_of, SmallAnswer}
use Rattle.engine_theory.proofs.Laws.{small, enclosed_in_doubles, refused_in_doubles, doubles_answers}
use Rattle.scenario_theory.proofs.NumberLaws.{refusal_numbered}
use Rattle.engine.proofs.answer_fields_in_doubles.Goals as goal

pub returns-in_err-e-clause-value : goal.returns-in_err-e-clause-value
returns-in_err-e-clause-value c =
    passed_on c.from_residual.ensures ∙ refused_in_doubles (sym c.in_err-e.was ∙ c.answer_fields.ensures.value)

pub as_doubles-requires : goal.as_doubles-requires
unfolding answer_of
as_doubles-requires c =
    subst SmallAnswer (sym c.answer_fields.ensures.value ∙ c.in_ok-e.was) (small _ _ (λ e. e))

pub returns-clause-value : goal.returns-clause-value
returns-clause-value c = enclosed_in_doubles c.as_doubles.ensures (sym c.in_ok-e.was ∙ c.answer_fields.ensures.value)

pub returns-clause-doubles_promise : goal.returns-clause-doubles_promise
unfolding answer_of
returns-clause-doubles_promise c =
    (doubles_answers _ _ (λ e. e) (refusal_numbered _)
    (enclosed_in_doubles c.as_doubles.ensures (sym c.in_ok-e.was ∙ c.answer_fields.ensures.value))).1
