use Rattle.std.proofs.Common.{arith, ◌≡◌, ◌+◌, ◌-◌, refl, lt-ltb}
use Rattle.interpolation_theory.specs.Evaluation.{two_rows_of}
use Rattle.boore_atkinson_sigma.proofs.sigma_rows.Goals as goal

pub returns : goal.returns
unfolding two_rows_of
returns c =
    let k = c.args.k in
    let here : k + 1 - 1 ≡ k = omega arith in
    rw (c.exact_pair-2.ensures, c.exact_pair.ensures, lt-ltb k (k + 1) (omega arith), here)
    (rw (← c.sigma_by_row-2.ensures.0, ← c.sigma_by_row.ensures.0) refl)
