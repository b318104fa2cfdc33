use mathlib.Core.Path.{◌∙◌}
use Rattle.engine_theory.proofs.Assembled.{idriss_moderate, idriss_at_row, idriss_interpolates, idriss_between_rows}
use Rattle.engine_theory.proofs.RowLaws.{idriss_tabled, placed_on_step, step_domain, step_is}
use Rattle.engine.proofs.idriss_median.Goals as goal

pub ends-requires : goal.ends-requires
ends-requires c =
    rw (rw c.in-Row.is at c.requires.rows_value) (idriss_moderate (rw c.in-Row.is at c.requires.placed))

pub returns-in-Row : goal.returns-in-Row
returns-in-Row c =
    c.ends.ensures ∙
    rw (rw c.in-Row.is at c.requires.rows_value) (idriss_at_row (rw c.in-Row.is at c.requires.placed))

pub idriss_neighbours-requires : goal.idriss_neighbours-requires
idriss_neighbours-requires c =
    let t = placed_on_step idriss_tabled (rw c.in-Between.is at c.requires.placed) in
    rw t.row_is t.on_step.last

pub step-step-requires : goal.step-step-requires
step-step-requires c =
    step_domain (placed_on_step idriss_tabled (rw c.in-Between.is at c.requires.placed)) c.idriss_neighbours.ensures

pub interpolated-requires : goal.interpolated-requires
interpolated-requires c =
    let p = rw c.in-Between.is at c.requires.placed in
    let step = step_is (placed_on_step idriss_tabled p) c.idriss_neighbours.ensures c.step-step.ensures in
    rw (step, rw c.in-Between.is at c.requires.rows_value) (idriss_interpolates p)

pub returns-in-Between : goal.returns-in-Between
returns-in-Between c =
    let p = rw c.in-Between.is at c.requires.placed in
    let step = step_is (placed_on_step idriss_tabled p) c.idriss_neighbours.ensures c.step-step.ensures in
    c.interpolated.ensures ∙ rw (step, rw c.in-Between.is at c.requires.rows_value) (idriss_between_rows p)
