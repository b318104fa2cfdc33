use mathlib.Core.Path.{sym, ◌∙◌}
use Rattle.toolbox_theory.proofs.Results.{passed_on}
use Rattle.record_theory.proofs.ReadingLaws.{based_read}
use Rattle.engine_theory.proofs.RecordLaws.{next_enclosed, next_refused, next_promised}
use Rattle.engine.proofs.answer_next.Goals as goal

pub returns-in_err-s-clause-value : goal.returns-in_err-s-clause-value
returns-in_err-s-clause-value c =
    passed_on c.from_residual.ensures ∙ next_refused _ (sym c.read_with_basis.ensures.value ∙ c.in_err-s.was)

pub returns-in_err-s-clause-next_promise : goal.returns-in_err-s-clause-next_promise
returns-in_err-s-clause-next_promise c =
    (next_promised _ (passed_on c.from_residual.ensures ∙
    next_refused _ (sym c.read_with_basis.ensures.value ∙ c.in_err-s.was))).1

pub on_basis-requires : goal.on_basis-requires
on_basis-requires c = (based_read _ (sym c.read_with_basis.ensures.value ∙ c.in_ok-s.was)).rests.placed

pub returns-clause-value : goal.returns-clause-value
returns-clause-value c = next_enclosed _ (sym c.read_with_basis.ensures.value ∙ c.in_ok-s.was) c.on_basis.ensures

pub returns-clause-next_promise : goal.returns-clause-next_promise
returns-clause-next_promise c =
    (next_promised _
    (next_enclosed _ (sym c.read_with_basis.ensures.value ∙ c.in_ok-s.was) c.on_basis.ensures)).1
