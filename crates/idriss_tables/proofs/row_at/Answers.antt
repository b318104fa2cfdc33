-- A row of the code's table is the definition's at the same place, by unsigned parts.
use Rattle.std.proofs.Common.{true, false}
use Rattle.std.proofs.Math.ListN.{get_or-map}
use Rattle.toolbox_theory.specs.Whole.{up, down}
use Rattle.exact_theory.specs.Fraction.{◌over◌}
use Rattle.idriss_theory.specs.Tables.{table2, table3, no_row}
use Rattle.idriss_theory.specs.Rows.{row_at, parts}
use Rattle.idriss_theory.proofs.Rows.{row_limits}
use Rattle.idriss_tables.proofs.row_at.Goals as goal

pub returns-then-table_3 : goal.returns-then-table_3
unfolding up down ◌over◌ row_at
returns-then-table_3 c =
    let k = c.args.k in
    let same = get_or-map parts table3 k no_row in
    rw c.if-table_3.true (same, rw same (row_limits true k c.requires).sizes)

pub returns : goal.returns
unfolding up down ◌over◌ row_at
returns c =
    let k = c.args.k in
    let same = get_or-map parts table2 k no_row in
    rw c.if-table_3.false (same, rw same (row_limits false k c.requires).sizes)
