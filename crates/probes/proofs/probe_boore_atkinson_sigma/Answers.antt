use mathlib.Core.Path.{◌∙◌, ap}
use Rattle.probes.specs.Probe.{told, probed_boore_atkinson_sigma}
use Rattle.probes.proofs.Domains.{taken, ends_told, none_told}
use Rattle.probes.proofs.probe_boore_atkinson_sigma.Goals as goal

pub returns-then-not-taken : goal.returns-then-not-taken
unfolding probed_boore_atkinson_sigma
returns-then-not-taken c = none_told _ _ _ c.taken.ensures c.if-not-taken.true

pub sigma-requires : goal.sigma-requires
sigma-requires c = (taken _ _ c.taken.ensures c.if-not-taken.false).row

pub returns : goal.returns
unfolding probed_boore_atkinson_sigma
returns c = ends_told _ _ _ c.taken.ensures c.if-not-taken.false (c.into.ensures ∙ ap told c.sigma.ensures.value)
