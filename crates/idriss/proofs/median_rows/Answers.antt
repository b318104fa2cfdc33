use Rattle.std.proofs.Common.{arith, ◌≡◌}
use Rattle.interpolation_theory.proofs.Passing.{one_passed, all_passed}
use Rattle.idriss.proofs.median_rows.Goals as goal

pub returns-2 : goal.returns-2
returns-2 c =
    let l = c.loop-i in
    let end : l.i ≡ c.args.last = omega arith in
    let p = one_passed _ _ l.i l.invariant c.median_by_row-upper.ensures in
    all_passed c.args.k _ c.args.last c.requires.1
    (rw (end, c.vs30_ln-ln_v.ensures.0, c.distance_ln-ln_r.ensures.0) at p)
