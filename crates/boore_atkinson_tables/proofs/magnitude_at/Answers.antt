-- A row of the code's table is the definition's at the same place, by unsigned parts.
use Rattle.std.proofs.Math.ListN.{get_or-map}
use Rattle.toolbox_theory.specs.Whole.{up, down}
use Rattle.exact_theory.specs.Fraction.{◌over◌}
use Rattle.boore_atkinson_theory.specs.Tables.{table7, no_row}
use Rattle.boore_atkinson_theory.specs.Rows.{row_at, magnitude_parts}
use Rattle.boore_atkinson_theory.proofs.Rows.{magnitude_limits_lem}
use Rattle.boore_atkinson_tables.proofs.magnitude_at.Goals as goal

pub returns : goal.returns
unfolding up down ◌over◌ row_at
returns c =
    let k = c.args.k in
    let same = get_or-map magnitude_parts table7 k no_row.magnitude in
    (same, rw same (magnitude_limits_lem k c.requires).sizes)
