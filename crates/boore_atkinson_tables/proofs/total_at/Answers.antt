-- A row of the code's table is the definition's at the same place, by unsigned parts.
use Rattle.std.proofs.Math.ListN.{get_or-map}
use Rattle.toolbox_theory.specs.Whole.{up, down}
use Rattle.exact_theory.specs.Fraction.{◌over◌}
use Rattle.boore_atkinson_theory.specs.Tables.{table8, no_total}
use Rattle.boore_atkinson_theory.specs.Rows.{total_at, total_parts}
use Rattle.boore_atkinson_tables.proofs.total_at.Goals as goal

pub returns : goal.returns
unfolding up down ◌over◌ total_at
returns c = get_or-map total_parts table8 c.args.k no_total
