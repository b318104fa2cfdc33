-- the loop has the medians by the last two rows that it has passed
use Rattle.interpolation_theory.proofs.Passing.{Passed}
use Rattle.boore_atkinson_theory.specs.Rows.{row_at}
use Rattle.boore_atkinson_theory.specs.Evaluation.{median_pair_of}
use Rattle.boore_atkinson.proofs.median_rows.Given as goal

abbrev pub invariant-loop-i : goal.invariant-loop-i
invariant-loop-i l =
    Passed l.k (λ j. median_pair_of (row_at j) l.s.magnitude l.distance.0 l.s.velocity l.s.mechanism)
    l.lower l.upper l.i
