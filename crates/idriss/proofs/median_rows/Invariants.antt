-- the loop has the medians by the last two rows that it has passed
use Rattle.interpolation_theory.proofs.Passing.{Passed}
use Rattle.idriss_theory.specs.Rows.{row_at}
use Rattle.idriss_theory.specs.Evaluation.{median_pair_by}
use Rattle.idriss.proofs.median_rows.Given as goal

abbrev pub invariant-loop-i : goal.invariant-loop-i
invariant-loop-i l =
    Passed l.k (λ j. median_pair_by (row_at l.table_3 j) l.s.magnitude l.d l.ln_r l.ln_v l.s.mechanism)
    l.lower l.upper l.i
