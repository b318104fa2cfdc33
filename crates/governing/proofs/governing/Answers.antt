-- What is screened is the sheet.
use Rattle.std.proofs.Common.{ap, ◌∙◌, arith}
use Rattle.governing_theory.specs.Evaluation.{screening_of, governing_of}
use Rattle.governing_theory.proofs.Laws.{governing_promised}
use Rattle.governing.proofs.governing.Goals as goal

pub returns : goal.returns
unfolding governing_of
returns c =
    let kept =
    governing_promised c.args.count c.args.scenarios (omega arith)
    (c.screen.ensures ∙ ap screening_of c.answer_sheet.ensures.value) in
    record { value = kept.0; governing_promise = kept.1 }
