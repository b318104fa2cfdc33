-- The arrays are those of the sheet of the scenarios so far.
use Rattle.sheet_theory.proofs.Turns.{Turned}
use Rattle.sheet.proofs.answer_sheet.Given as goal

abbrev pub invariant-loop-i : goal.invariant-loop-i
invariant-loop-i l =
    Turned l.number l.answered l.fn.scenarios l.i (
    record {
      number = l.number;
      count = l.answered;
      median_low = l.median_low;
      median_high = l.median_high;
      sigma_low = l.sigma_low;
      sigma_high = l.sigma_high;
      numbers = l.numbers;
    }
    )
