-- After i turns the first i bytes of the text are put.
use Rattle.std.proofs.Common.{◌≡◌, ◌++◌, take}
use Rattle.error_line.proofs.push_text.Given as goal

abbrev pub invariant-loop-b : goal.invariant-loop-b
invariant-loop-b g l = l.line.items ≡ l.fn.line.items ++ take l.b-index l.text
