use mathlib.Core.Path.{sym, ◌∙◌}
use Rattle.toolbox_theory.proofs.Results.{passed_on}
use Rattle.engine_theory.proofs.RecordLaws.{next_answer}
use Rattle.engine.proofs.answer_record.Goals as goal

pub returns-in_err-e-clause-value : goal.returns-in_err-e-clause-value
returns-in_err-e-clause-value c =
    passed_on c.from_residual.ensures ∙ next_answer _ (sym c.answer_next.ensures.value ∙ c.in_err-e.was)

pub returns-clause-value : goal.returns-clause-value
returns-clause-value c = next_answer _ (sym c.answer_next.ensures.value ∙ c.in_ok-e.was)
