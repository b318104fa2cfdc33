-- A row of the code's table is the definition's at the same place, by unsigned parts.
use Rattle.std.proofs.Math.ListN.{get_or-map}
use Rattle.toolbox_theory.specs.Whole.{up, down}
use Rattle.exact_theory.specs.Fraction.{◌over◌}
use Rattle.boore_atkinson_theory.specs.Tables.{table3, no_row}
use Rattle.boore_atkinson_theory.specs.Rows.{row_at, site_parts}
use Rattle.boore_atkinson_theory.proofs.Rows.{site_limits_lem}
use Rattle.boore_atkinson_tables.proofs.site_at.Goals as goal

pub returns : goal.returns
unfolding up down ◌over◌ row_at
returns c =
    let k = c.args.k in
    let same = get_or-map site_parts table3 k no_row.site in
    (same, rw same (site_limits_lem k c.requires).sizes)
