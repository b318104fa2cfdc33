-- The parts are the line.
use Rattle.std.proofs.Common.{append_assoc}
use Rattle.enclosures_theory.specs.Transfers.{input_failed}
use Rattle.error_line.proofs.input_failed.Goals as goal

pub returns : goal.returns
unfolding input_failed
returns c = rw (c.push_text.ensures, c.push_counted.ensures, c.new-line.ensures) (simp append_assoc)
