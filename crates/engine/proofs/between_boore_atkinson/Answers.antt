use Rattle.engine_theory.proofs.Assembled.{boore_atkinson_interpolates, boore_atkinson_between_rows}
use Rattle.engine_theory.proofs.RowLaws.{boore_atkinson_tabled, placed_on_step, step_domain, step_is, not_first}
use Rattle.engine.proofs.between_boore_atkinson.Goals as goal

pub boore_atkinson_neighbours-requires : goal.boore_atkinson_neighbours-requires
boore_atkinson_neighbours-requires c =
    let t = placed_on_step boore_atkinson_tabled c.requires.placed in
    rw t.row_is (not_first t.on_step.rows, t.on_step.last)

pub step-step-requires : goal.step-step-requires
step-step-requires c =
    step_domain (placed_on_step boore_atkinson_tabled c.requires.placed) c.boore_atkinson_neighbours.ensures

pub sigma_rows-sigmas-requires : goal.sigma_rows-sigmas-requires
sigma_rows-sigmas-requires c =
    let t = placed_on_step boore_atkinson_tabled c.requires.placed in rw t.row_is t.on_step.last

pub interpolated-requires : goal.interpolated-requires
interpolated-requires c =
    let t = placed_on_step boore_atkinson_tabled c.requires.placed in
    let step = step_is t c.boore_atkinson_neighbours.ensures c.step-step.ensures in
    rw (step, c.requires.rows_value) (boore_atkinson_interpolates c.requires.placed).median

pub interpolated-requires-2 : goal.interpolated-requires-2
interpolated-requires-2 c =
    let t = placed_on_step boore_atkinson_tabled c.requires.placed in
    let step = step_is t c.boore_atkinson_neighbours.ensures c.step-step.ensures in
    rw (step, c.sigma_rows-sigmas.ensures) (boore_atkinson_interpolates c.requires.placed).sigma

pub returns : goal.returns
returns c =
    let t = placed_on_step boore_atkinson_tabled c.requires.placed in
    let step = step_is t c.boore_atkinson_neighbours.ensures c.step-step.ensures in
    rw (
      c.interpolated-2.ensures,
      c.interpolated.ensures,
      step,
      c.sigma_rows-sigmas.ensures,
      c.requires.rows_value,
    )
    (boore_atkinson_between_rows c.requires.placed)
