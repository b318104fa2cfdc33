-- Written by tools/logarithm_tables.py. A place past the end is read as the last.
use mathlib.Core.Path.{refl}
use Rattle.logarithm_tables_theory.specs.Tables.{factor, coarse, coarse_at}
use Rattle.toolbox_theory.proofs.Clamped.{clamped}
use Rattle.logarithm_tables.proofs.coarse.Goals as goal

pub returns : goal.returns
unfolding coarse_at
returns c =
    rw c.min-place.ensures
    (clamped coarse 64 c.args.i (factor 0 0) (factor 2048 2_839_130_851_566) refl refl)
