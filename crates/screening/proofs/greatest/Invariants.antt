-- The best of the places so far.
use Rattle.std.proofs.Common.{◌≡◌, length}
use Rattle.governing_theory.specs.Evaluation.{greatest_of}
use Rattle.screening.proofs.greatest.Given as goal

abbrev pub invariant-loop-i : goal.invariant-loop-i
invariant-loop-i l = l.best ≡ greatest_of l.numbers l.ends (length l.yielded)
