-- The line is put whole, as there is room for it.
use Rattle.std.proofs.Common.{arith}
use Rattle.report_theory.proofs.LineLaws.{fitting}
use Rattle.error_line.proofs.put_error.Goals as goal
use Rattle.error_line.proofs.put_error.Goals.{in-Err-default, in-Ok-Err, in-Ok-Ok}

pub returns-clause-upper_bound : goal.returns-clause-upper_bound
returns-clause-upper_bound c = (fitting _ _ (omega arith) c.put_whole.ensures.value c.put_whole.ensures.out_after).1

pub returns-clause-out_after : goal.returns-clause-out_after
returns-clause-out_after c =
    let put = (fitting _ _ (omega arith) c.put_whole.ensures.value c.put_whole.ensures.out_after).0 in
    rw (put, c.as_slice.ensures.value)
    (elim c.match-got.branch [
      | in-Err-default w ↦
          let got = w.in-Err-default in
          rw (w.line-is, w.input_failed-line.ensures, got.is-0)
      | in-Ok-Err w ↦
          let both = w.in-Ok-Err in
          rw (w.line-is, w.output_failed-line.ensures, both.is-0, both.is-1)
      | in-Ok-Ok w ↦ let both = w.in-Ok-Ok in rw (w.line-is, w.new-line.ensures, both.is-0, both.is-1)
    ])
