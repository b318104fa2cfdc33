-- Each place is looked at in its turn.
use Rattle.std.proofs.Common.{◌≡◌, refl, true, false, sym, ◌∙◌, add-one, rules, to_z, of_z, w64}
use Rattle.std.proofs.lemmas.List.{length_push}
use mir.ValLaws.{to_z-of_z}
use Rattle.governing_theory.specs.Evaluation.{leads, greatest_of}
use Rattle.governing_theory.proofs.TwoColumns.{turn}
use Rattle.governing_theory.proofs.Steps.{greatest_next}
use Rattle.screening.proofs.greatest.Goals as goal

pub loop-i-init : goal.loop-i-init
unfolding greatest_of
loop-i-init c = refl

pub loop-i-preserved-then-leads : goal.loop-i-preserved-then-leads
loop-i-preserved-then-leads c =
    let t =
    turn c.args.numbers.now c.args.ends.now c.into_iter-i-iterator.result c.loop-i.yielded c.loop-i.i-iterator
    c.next.new.self c.loop-i.yielded_by c.next.ensures.steps c.in-Some.is (cc) (cc) (cc) in
    let read : to_z w64 (of_z w64 c.in-Some.end.now) ≡ c.in-Some.end.now = search (rules, to_z-of_z) in
    let lead : leads c.loop-i.best c.in-Some.number.now c.in-Some.end.now ≡ true =
    sym (rw read at c.leads.ensures) ∙ c.if-leads.true in
    rw (read, length_push c.loop-i.yielded, ← greatest_next _ _ _ t c.loop-i.invariant, lead, add-one) refl

pub loop-i-preserved : goal.loop-i-preserved
loop-i-preserved c =
    let t =
    turn c.args.numbers.now c.args.ends.now c.into_iter-i-iterator.result c.loop-i.yielded c.loop-i.i-iterator
    c.next.new.self c.loop-i.yielded_by c.next.ensures.steps c.in-Some.is (cc) (cc) (cc) in
    let read : to_z w64 (of_z w64 c.in-Some.end.now) ≡ c.in-Some.end.now = search (rules, to_z-of_z) in
    let lead : leads c.loop-i.best c.in-Some.number.now c.in-Some.end.now ≡ false =
    sym (rw read at c.leads.ensures) ∙ c.if-leads.false in
    rw (length_push c.loop-i.yielded, ← greatest_next _ _ _ t c.loop-i.invariant, lead) refl
