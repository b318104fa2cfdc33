-- Each scenario's answer is stored in its turn, and at the end it is the whole sheet.
use Rattle.std.proofs.Common.{◌≡◌, ◌≤◌, sym, ◌∙◌, rules, arith, to_z, of_z, w64}
use Rattle.std.proofs.lemmas.List.{length-take}
use mir.ValLaws.{to_z-of_z}
use Rattle.sheet_theory.specs.Promise.{sheet_most}
use Rattle.sheet_theory.specs.Evaluation.{sheet_by, sheet_of}
use Rattle.sheet_theory.proofs.Laws.{with_count, with_refusal, sheet_promised}
use Rattle.sheet_theory.proofs.Turns.{first_turn, next_turn, last_turn}
use Rattle.sheet.proofs.answer_sheet.Goals as goal
use Rattle.sheet.proofs.answer_sheet.Goals.{in-Ok, in-Err}

pub loop-i-init : goal.loop-i-init
loop-i-init c = first_turn _ _ _

pub loop-i-preserved : goal.loop-i-preserved
loop-i-preserved c =
    let a = c.answer_fields-answer.result in
    let ml : to_z w64 (of_z w64 a.median_low) ≡ a.median_low = search (rules, to_z-of_z) in
    let mh : to_z w64 (of_z w64 a.median_high) ≡ a.median_high = search (rules, to_z-of_z) in
    let sl : to_z w64 (of_z w64 a.sigma_low) ≡ a.sigma_low = search (rules, to_z-of_z) in
    let sh : to_z w64 (of_z w64 a.sigma_high) ≡ a.sigma_high = search (rules, to_z-of_z) in
    rw (ml, mh, sl, sh)
    (next_turn _ a c.loop-i.invariant (omega arith) c.loop-i-test.true c.answer_fields-answer.ensures.value)

pub returns : goal.returns
returns c =
    let count = c.args.count in
    let xs = c.args.scenarios in
    let k = c.match-head_of.number in
    let head : (k.1 ≤ sheet_most) × (sheet_of count xs ≡ sheet_by k.0 k.1 xs) =
    elim c.match-head_of.branch [
      | in-Ok w ↦ rw w.number-is (with_count count xs (sym c.head_of.ensures ∙ w.in-Ok.is))
      | in-Err w ↦ rw (w.number-is, w.from.ensures) (with_refusal count xs (sym c.head_of.ensures ∙ w.in-Err.is))
    ] in
    let last : c.loop-i.i ≡ k.1 = omega (arith, c.loop-i-test.false, c.loop-i.auto.i-end, length-take k.1 xs, head.0) in
    let kept = sheet_promised count xs (omega arith) (last_turn (rw last at c.loop-i.invariant) ∙ sym head.1) in
    record { value = kept.0; sheet_promise = kept.1 }
