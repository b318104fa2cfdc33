use mathlib.Core.Path.{◌≡◌, ◌∙◌}
use native.Mathlib.Omega.{arith}
use lib.ListN.{length, length-map}
use Rattle.sheet_theory.specs.Promise.{sheet_most}
use Rattle.sheet_theory.specs.Evaluation.{answered_count}
use Rattle.sheet_theory.proofs.Laws.{few}
use Rattle.governing_theory.specs.Evaluation.{governing_of}
use Rattle.governing_theory.proofs.Laws.{governing_promised, governing_alike}
use Rattle.host_theory.proofs.SheetLaws.{taken_over}
use Rattle.host_theory.specs.Told.{scenario_from}
use Rattle.host.proofs.fusnoch_governing.Goals as goal

pub returns : goal.returns
returns c =
    let count = c.args.count in
    let places = c.args.scenarios.places in
    let long : length places ≡ sheet_most = omega arith in
    let kept = governing_promised count _ (length-map places scenario_from ∙ long)
    (c.governing.ensures.value
    ∙ taken_over (governing_of count) (answered_count count) (few count) (governing_alike count) places long
    c.scenarios_from.ensures) in
    record { value = kept.0; governing_promise = kept.1 }
