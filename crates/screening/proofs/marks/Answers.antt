-- Each place is marked in its turn.
use Rattle.std.proofs.Common.{◌≡◌, refl, rules, to_z, of_z, w64}
use Rattle.std.proofs.lemmas.List.{length_push}
use mir.ValLaws.{to_z-of_z}
use Rattle.governing_theory.specs.Evaluation.{marks_of}
use Rattle.governing_theory.proofs.TwoColumns.{turn}
use Rattle.governing_theory.proofs.Steps.{marks_next}
use Rattle.screening.proofs.marks.Goals as goal

pub loop-i-init : goal.loop-i-init
unfolding marks_of
loop-i-init c = refl

pub loop-i-preserved : goal.loop-i-preserved
loop-i-preserved c =
    let t =
    turn c.args.numbers.now c.args.highs.now c.into_iter-i-iterator.result c.loop-i.yielded c.loop-i.i-iterator
    c.next.new.self c.loop-i.yielded_by c.next.ensures.steps c.in-Some.is (cc) (cc) (cc) in
    let read : to_z w64 (of_z w64 c.in-Some.high.now) ≡ c.in-Some.high.now = search (rules, to_z-of_z) in
    rw (length_push c.loop-i.yielded, c.mark.ensures, read, marks_next _ _ _ t _ c.loop-i.invariant) refl
