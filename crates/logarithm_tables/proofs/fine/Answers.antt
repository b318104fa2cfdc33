-- Written by tools/logarithm_tables.py. A place past the end is read as the last.
use mathlib.Core.Path.{refl}
use Rattle.logarithm_tables_theory.specs.Tables.{factor, fine, fine_at}
use Rattle.toolbox_theory.proofs.Clamped.{clamped}
use Rattle.logarithm_tables.proofs.fine.Goals as goal

pub returns : goal.returns
unfolding fine_at
returns c =
    rw c.min-place.ensures
    (clamped fine 63 c.args.i (factor 0 0) (factor 16_136 62_474_027_848) refl refl)
