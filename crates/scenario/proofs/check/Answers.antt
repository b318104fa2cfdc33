use mathlib.Core.Path.{sym, ap, ◌∙◌}
use Rattle.std.specs.Prelude.{Err}
use Rattle.toolbox_theory.proofs.Results.{passed_on, ok_or_some, ok_or_none}
use Rattle.scenario_theory.specs.Refusal.{projection_exceeds}
use Rattle.scenario_theory.proofs.CheckedLaws.{exceeded, idriss_lacks, idriss_fails, idriss_last, no_model}
use Rattle.scenario_theory.proofs.CheckedLaws.{boore_atkinson_lacks, boore_atkinson_fails, boore_atkinson_last}
use Rattle.scenario.proofs.check.Goals as goal

pub returns-then-projection_exceeds : goal.returns-then-projection_exceeds
unfolding projection_exceeds
returns-then-projection_exceeds c = exceeded _ (sym c.projection_exceeds.ensures ∙ c.if-projection_exceeds.true)

pub returns-in_err-distance-in-1 : goal.returns-in_err-distance-in-1
unfolding projection_exceeds
returns-in_err-distance-in-1 c =
    let near = sym c.projection_exceeds.ensures ∙ c.if-projection_exceeds.false in
    let none = ok_or_none _ _ (sym c.ok_or.ensures.value ∙ c.in_err-distance-in-1.was) in
    passed_on c.from_residual.ensures ∙ ap Err none.1 ∙ idriss_lacks _ near c.in-1.is none.0

pub returns-in_err-within-in-1 : goal.returns-in_err-within-in-1
unfolding projection_exceeds
returns-in_err-within-in-1 c =
    let near = sym c.projection_exceeds.ensures ∙ c.if-projection_exceeds.false in
    let reads = ok_or_some _ _ (sym c.ok_or.ensures.value ∙ c.in_ok-distance-in-1.was) in
    passed_on c.from_residual-in_err-within-in-1.ensures ∙
    idriss_fails _ near c.in-1.is reads (sym c.within.ensures ∙ c.in_err-within-in-1.was)

pub returns-in_err-place-in-1 : goal.returns-in_err-place-in-1
unfolding projection_exceeds
returns-in_err-place-in-1 c =
    let near = sym c.projection_exceeds.ensures ∙ c.if-projection_exceeds.false in
    let reads = ok_or_some _ _ (sym c.ok_or.ensures.value ∙ c.in_ok-distance-in-1.was) in
    let none = ok_or_none _ _ (sym c.ok_or-in-1.ensures.value ∙ c.in_err-place-in-1.was) in
    passed_on c.from_residual-in_err-place-in-1.ensures ∙ ap Err none.1 ∙
    idriss_last _ near c.in-1.is reads (sym c.within.ensures ∙ c.in_ok-within-in-1.was)
    (sym none.0 ∙ c.idriss_place.ensures)

pub returns-in_ok-place-in-1 : goal.returns-in_ok-place-in-1
unfolding projection_exceeds
returns-in_ok-place-in-1 c =
    let near = sym c.projection_exceeds.ensures ∙ c.if-projection_exceeds.false in
    let reads = ok_or_some _ _ (sym c.ok_or.ensures.value ∙ c.in_ok-distance-in-1.was) in
    let some = ok_or_some _ _ (sym c.ok_or-in-1.ensures.value ∙ c.in_ok-place-in-1.was) in
    idriss_last _ near c.in-1.is reads (sym c.within.ensures ∙ c.in_ok-within-in-1.was)
    (sym some ∙ c.idriss_place.ensures)

pub returns-in_err-distance-in-2 : goal.returns-in_err-distance-in-2
unfolding projection_exceeds
returns-in_err-distance-in-2 c =
    let near = sym c.projection_exceeds.ensures ∙ c.if-projection_exceeds.false in
    let none = ok_or_none _ _ (sym c.ok_or-in-2.ensures.value ∙ c.in_err-distance-in-2.was) in
    passed_on c.from_residual-in_err-distance-in-2.ensures ∙ ap Err none.1 ∙
    boore_atkinson_lacks _ near c.in-2.is none.0

pub returns-in_err-within-in-2 : goal.returns-in_err-within-in-2
unfolding projection_exceeds
returns-in_err-within-in-2 c =
    let near = sym c.projection_exceeds.ensures ∙ c.if-projection_exceeds.false in
    let reads = ok_or_some _ _ (sym c.ok_or-in-2.ensures.value ∙ c.in_ok-distance-in-2.was) in
    passed_on c.from_residual-in_err-within-in-2.ensures ∙
    boore_atkinson_fails _ near c.in-2.is reads (sym c.within-in-2.ensures ∙ c.in_err-within-in-2.was)

pub returns-in_err-place-in-2 : goal.returns-in_err-place-in-2
unfolding projection_exceeds
returns-in_err-place-in-2 c =
    let near = sym c.projection_exceeds.ensures ∙ c.if-projection_exceeds.false in
    let reads = ok_or_some _ _ (sym c.ok_or-in-2.ensures.value ∙ c.in_ok-distance-in-2.was) in
    let none = ok_or_none _ _ (sym c.ok_or-in-2-2.ensures.value ∙ c.in_err-place-in-2.was) in
    passed_on c.from_residual-in_err-place-in-2.ensures ∙ ap Err none.1 ∙
    boore_atkinson_last _ near c.in-2.is reads (sym c.within-in-2.ensures ∙ c.in_ok-within-in-2.was)
    (sym none.0 ∙ c.boore_atkinson_place.ensures)

pub returns-in_ok-place-in-2 : goal.returns-in_ok-place-in-2
unfolding projection_exceeds
returns-in_ok-place-in-2 c =
    let near = sym c.projection_exceeds.ensures ∙ c.if-projection_exceeds.false in
    let reads = ok_or_some _ _ (sym c.ok_or-in-2.ensures.value ∙ c.in_ok-distance-in-2.was) in
    let some = ok_or_some _ _ (sym c.ok_or-in-2-2.ensures.value ∙ c.in_ok-place-in-2.was) in
    boore_atkinson_last _ near c.in-2.is reads (sym c.within-in-2.ensures ∙ c.in_ok-within-in-2.was)
    (sym some ∙ c.boore_atkinson_place.ensures)

pub returns-in_default : goal.returns-in_default
unfolding projection_exceeds
returns-in_default c =
    let near = sym c.projection_exceeds.ensures ∙ c.if-projection_exceeds.false in
    let r = c.in_default.in_default-own.rest in no_model _ near r.0.1 r.1
