use mathlib.Core.Path.{refl}
use Rattle.report_theory.specs.Lines.{line_of}
use Rattle.lines.proofs.push_line.Goals as goal

pub returns-in-Err : goal.returns-in-Err
unfolding line_of
returns-in-Err g c = rw (c.push_refused.ensures, c.into.ensures, c.in-Err.is) refl
