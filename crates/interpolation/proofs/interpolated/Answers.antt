use Rattle.std.proofs.Common.{rules}
use Rattle.interpolation_theory.specs.Evaluation.{interpolated_of}
use Rattle.interpolation_theory.proofs.Domains.{rise_takes, fall_takes, high_rise_takes, high_fall_takes}
use Rattle.interpolation.proofs.interpolated.Goals as goal

pub part_down-requires : goal.part_down-requires
part_down-requires c = search (rules, rise_takes)

pub part_up-requires : goal.part_up-requires
part_up-requires c = search (rules, fall_takes)

pub part_up-requires-2 : goal.part_up-requires-2
part_up-requires-2 c = search (rules, high_rise_takes)

pub part_down-requires-2 : goal.part_down-requires-2
part_down-requires-2 c = search (rules, high_fall_takes)

pub returns : goal.returns
unfolding interpolated_of
returns c = rw (
  c.between.ensures,
  c.part_down-2.ensures.0,
  c.part_up-2.ensures.0,
  c.part_up.ensures.0,
  c.part_down.ensures.0,
)
