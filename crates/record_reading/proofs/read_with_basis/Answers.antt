use mathlib.Core.Path.{sym, ◌∙◌}
use native.Mathlib.Omega.{arith}
use Rattle.toolbox_theory.proofs.Results.{passed_on}
use Rattle.record_theory.proofs.FieldLaws.{length_is, distances_read}
use Rattle.record_theory.proofs.ReadingLaws.{passes, front_passes, front_fails, default_fails, check_fails, is_read}
use Rattle.record_theory.proofs.ReadingLaws.{read_of_lem}
use Rattle.record_reading.proofs.read_with_basis.Goals as goal

pub returns-in_err-front_check-clause-value : goal.returns-in_err-front_check-clause-value
returns-in_err-front_check-clause-value c =
    passed_on c.from_residual.ensures ∙ front_fails _ (sym c.front_check.ensures ∙ c.in_err-front_check.was)

pub returns-in_err-front_check-clause-read_promise : goal.returns-in_err-front_check-clause-read_promise
returns-in_err-front_check-clause-read_promise c =
    (read_of_lem _ (sym (returns-in_err-front_check-clause-value c))).1

pub bounds-s-0 : goal.bounds-s-0
bounds-s-0 c =
    let f = front_passes _ (passes _ (sym c.front_check.ensures ∙ c.in_ok-front_check.was)) in
    omega (arith, length_is _ f.passes)

pub fields-x-requires : goal.fields-x-requires
fields-x-requires c = front_passes _ (passes _ (sym c.front_check.ensures ∙ c.in_ok-front_check.was))

pub absent_written-requires : goal.absent_written-requires
absent_written-requires c =
    let f = front_passes _ (passes _ (sym c.front_check.ensures ∙ c.in_ok-front_check.was)) in
    rw c.fields-x.ensures (distances_read _ f.passes)

pub returns-then-absent_written-clause-value : goal.returns-then-absent_written-clause-value
returns-then-absent_written-clause-value c =
    default_fails _ (sym c.front_check.ensures ∙ c.in_ok-front_check.was) c.fields-x.ensures
    (sym c.absent_written.ensures ∙ c.if-absent_written.true)

pub returns-then-absent_written-clause-read_promise : goal.returns-then-absent_written-clause-read_promise
returns-then-absent_written-clause-read_promise c =
    (read_of_lem _ (sym (returns-then-absent_written-clause-value c))).1

pub returns-in_err-basis-clause-value : goal.returns-in_err-basis-clause-value
returns-in_err-basis-clause-value c =
    passed_on c.from_residual-in_err-basis.ensures ∙
    check_fails _ (sym c.front_check.ensures ∙ c.in_ok-front_check.was) c.fields-x.ensures
    (sym c.absent_written.ensures ∙ c.if-absent_written.false) (sym c.check.ensures ∙ c.in_err-basis.was)

pub returns-in_err-basis-clause-read_promise : goal.returns-in_err-basis-clause-read_promise
returns-in_err-basis-clause-read_promise c = (read_of_lem _ (sym (returns-in_err-basis-clause-value c))).1

pub record_length-requires : goal.record_length-requires
record_length-requires c =
    (front_passes _ (passes _ (sym c.front_check.ensures ∙ c.in_ok-front_check.was))).passes

pub returns-clause-value : goal.returns-clause-value
returns-clause-value c =
    rw c.record_length.ensures
    (is_read _ (sym c.front_check.ensures ∙ c.in_ok-front_check.was) c.fields-x.ensures
    (sym c.absent_written.ensures ∙ c.if-absent_written.false) (sym c.check.ensures ∙ c.in_ok-basis.was))

pub returns-clause-read_promise : goal.returns-clause-read_promise
returns-clause-read_promise c = (read_of_lem _ (sym (returns-clause-value c))).1
