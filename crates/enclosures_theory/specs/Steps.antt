-- What the functions of the program say to each other.
use Rattle.std.specs.Prelude.{◌≡◌, List, ◌++◌, ℕ, ◌+◌, ◌*◌, ◌≤◌, length}
use Rattle.report_theory.specs.Lines.{last_line_of}
use Rattle.enclosures_theory.specs.Sizes.{lines_most, line_most}
use Rattle.enclosures_theory.specs.Output.{ended, lines_after}

-- so many lines of s are put after a front, and these bytes of s are left: what is put, with what is to follow, is all,
-- and as every record has six bytes or more and no line is longer than line_most, there is room for the rest
pub record Going (front s put rest : List ℕ) (count : ℕ) : Type 0 where
  pub lines : 6 * count + length rest ≤ length s
  pub size : length put ≤ length front + line_most * count
  pub bytes : put ++ lines_after count rest ≡ front ++ lines_after 0 s

-- all lines but the last are put
pub record Gone (front s : List ℕ) (count : ℕ) (put : List ℕ) : Type 0 where
  pub bytes : put ++ ended (last_line_of count) ≡ front ++ lines_after 0 s
  pub size : length put ≤ length front + line_most * lines_most
