use mathlib.Core.Path.{ap, ◌∙◌}
use Rattle.scenario_theory.specs.declared.Scenario.{Scenario}
use Rattle.scenario_theory.specs.Refusal.{refusal_of}
use Rattle.scenario_theory.proofs.NumberLaws.{refusal_numbered}
use Rattle.engine_theory.specs.Evaluation.{answer_of, in_doubles}
use Rattle.host_theory.specs.Told.{scenario_from, told_doubles}
use Rattle.host_theory.proofs.Laws.{doubles_answers}
use Rattle.host.proofs.fusnoch_answer_fields_in_doubles.Goals as goal

pub returns-clause-host_doubles_promise : goal.returns-clause-host_doubles_promise
unfolding answer_of
returns-clause-host_doubles_promise c =
    let x : Scenario = scenario_from c.args.s in
    (doubles_answers x (refusal_of x) (λ e. e) (refusal_numbered x)
    (c.into-2.ensures
    ∙ ap told_doubles (c.answer_fields_in_doubles.ensures.value
    ∙ ap (λ (y : Scenario). in_doubles (answer_of y)) c.into.ensures))).1
