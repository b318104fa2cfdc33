-- A row of the code's table is the definition's at the same place, by unsigned parts.
use Rattle.std.proofs.Math.ListN.{get_or-map}
use Rattle.toolbox_theory.specs.Whole.{up, down}
use Rattle.exact_theory.specs.Fraction.{◌over◌}
use Rattle.boore_atkinson_theory.specs.Tables.{table6, no_row}
use Rattle.boore_atkinson_theory.specs.Rows.{row_at, distance_parts}
use Rattle.boore_atkinson_theory.proofs.Rows.{distance_limits_lem}
use Rattle.boore_atkinson_tables.proofs.distance_at.Goals as goal

pub returns : goal.returns
unfolding up down ◌over◌ row_at
returns c =
    let k = c.args.k in
    let same = get_or-map distance_parts table6 k no_row.distance in
    (same, rw same (distance_limits_lem k c.requires).sizes)
