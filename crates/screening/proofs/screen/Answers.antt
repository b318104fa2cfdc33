-- It goes by the sheet's own number, and then by the greatest ends.
use Rattle.std.proofs.Common.{rules, arith, ◌≡◌, refl, sym, ap, ◌∙◌, to_z, of_z, w64}
use mir.ValLaws.{to_z-of_z}
use Rattle.governing_theory.specs.Evaluation.{no_screening}
use Rattle.governing_theory.proofs.Screening.{over_is}
use Rattle.governing_theory.proofs.Steps.{marks_taken, screened}
use Rattle.screening.proofs.screen.Goals as goal
use Rattle.screening.proofs.screen.Goals.{in_default-via-in-Some+in_default, in_default-via-in_default}

pub returns-then-sheet-ne0 : goal.returns-then-sheet-ne0
returns-then-sheet-ne0 c = c.none.ensures ∙ sym (over_is _ c.if-sheet-ne0.true)

pub returns-in_default : goal.returns-in_default
returns-in_default c =
    let by =
    screened c.args.sheet c.if-sheet-ne0.false (omega arith) (omega arith) (omega arith) c.greatest.ensures
    c.greatest-2.ensures in
    let none = c.none-in_default.ensures ∙ ap no_screening c.into.ensures in
    elim c.in_default.branch [
      | in_default-via-in-Some+in_default w ↦
          rw (by, w.in_default.is-0, w.in_default.is-1) none
      | in_default-via-in_default w ↦ rw (by, w.in_default.is-0) none
    ]

pub returns : goal.returns
returns c =
    let s = c.args.sheet in
    let by =
    screened s c.if-sheet-ne0.false (omega arith) (omega arith) (omega arith) c.greatest.ensures
    c.greatest-2.ensures in
    let read : to_z w64 (of_z w64 c.in-Some-Some.low.end) ≡ c.in-Some-Some.low.end = search (rules, to_z-of_z) in
    let all = marks_taken s.numbers s.median_high s.count (omega arith) (omega arith) c.in-Some-Some.low.end in
    rw (by, c.in-Some-Some.is-0, c.in-Some-Some.is-1, c.marks.ensures, read, all) refl
