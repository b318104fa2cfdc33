-- A page that is put together has room.
use Rattle.std.proofs.Common.{arith}
use Rattle.report_theory.proofs.LineLaws.{fitting}
use Rattle.page.proofs.put_page.Goals as goal

pub returns-clause-upper_bound : goal.returns-clause-upper_bound
returns-clause-upper_bound c = (fitting _ _ (omega arith) c.put_whole.ensures.value c.put_whole.ensures.out_after).1

pub returns-clause-out_after : goal.returns-clause-out_after
returns-clause-out_after c =
    let put = (fitting _ _ (omega arith) c.put_whole.ensures.value c.put_whole.ensures.out_after).0 in
    rw (put, c.as_slice.ensures.value, c.push_page.ensures)
