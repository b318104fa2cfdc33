-- The places so far have their marks.
use Rattle.std.proofs.Common.{◌≡◌, length}
use Rattle.governing_theory.specs.Evaluation.{marks_of}
use Rattle.screening.proofs.marks.Given as goal

abbrev pub invariant-loop-i : goal.invariant-loop-i
invariant-loop-i l = l.marks ≡ marks_of l.low l.numbers l.highs (length l.yielded)
