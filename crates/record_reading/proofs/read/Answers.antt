use mathlib.Core.Path.{sym, ◌∙◌}
use Rattle.toolbox_theory.proofs.Results.{passed_on}
use Rattle.record_theory.proofs.ReadingLaws.{read_of_lem}
use Rattle.record_reading.proofs.read.Goals as goal

pub returns-in_err-x-clause-value : goal.returns-in_err-x-clause-value
returns-in_err-x-clause-value c =
    passed_on c.from_residual.ensures ∙ (read_of_lem _ (sym c.read_with_basis.ensures.value ∙ c.in_err-x.was)).0

pub returns-clause-value : goal.returns-clause-value
returns-clause-value c = (read_of_lem _ (sym c.read_with_basis.ensures.value ∙ c.in_ok-x.was)).0
