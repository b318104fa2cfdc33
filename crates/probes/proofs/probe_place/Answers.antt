use mathlib.Core.Path.{◌∙◌, ap}
use borrow.Author.Tests.{eq-eqb, ne_eqb}
use Rattle.probes.specs.Probe.{told_place, probed_place}
use Rattle.probes.proofs.probe_place.Goals as goal
use Rattle.probes.proofs.probe_place.Goals.{then-model-eq1, else-model-eq1}

pub returns : goal.returns
unfolding probed_place
returns c =
    c.into.ensures
    ∙ ap told_place (elim c.if-model-eq1.branch [
      | then-model-eq1 w ↦ rw (eq-eqb _ 1 w.if-model-eq1.true) (w.place-is ∙ w.idriss_place-place.ensures)
      | else-model-eq1 w ↦ rw (ne_eqb _ 1 w.if-model-eq1.false) (w.place-is ∙ w.boore_atkinson_place-place.ensures)
    ])
