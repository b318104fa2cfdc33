-- Each place is converted in its turn.
use Rattle.std.proofs.Common.{◌≡◌, refl, ap, ◌∙◌, arith}
use Rattle.sheet_theory.specs.Evaluation.{filled}
use Rattle.sheet_theory.proofs.Filling.{filled_turn}
use Rattle.host_theory.specs.Told.{scenario_from, no_fields}
use Rattle.host_sheet.proofs.scenarios_from.Goals as goal

pub loop-i-init : goal.loop-i-init
unfolding filled
loop-i-init c =
    let fields : c.default.result ≡ no_fields = grind arith in
    rw (c.from-scenarios.ensures ∙ ap scenario_from fields) refl

pub loop-i-preserved : goal.loop-i-preserved
loop-i-preserved c =
    rw c.loop-i.invariant
    (filled_turn scenario_from (scenario_from no_fields) c.unwrap_or-answered.result c.loop-i.i c.args.places _
    (omega arith) c.loop-i-test.true c.from.ensures)
