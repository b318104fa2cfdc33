use mathlib.Core.Path.{◌∙◌, ap}
use Rattle.probes.specs.Probe.{told, probed_idriss_sigma}
use Rattle.probes.proofs.Domains.{ends_told, none_told}
use Rattle.probes.proofs.probe_idriss_sigma.Goals as goal

pub returns-then-not-taken : goal.returns-then-not-taken
unfolding probed_idriss_sigma
returns-then-not-taken c = none_told _ _ _ c.taken.ensures c.if-not-taken.true

pub returns : goal.returns
unfolding probed_idriss_sigma
returns c = ends_told _ _ _ c.taken.ensures c.if-not-taken.false (c.into.ensures ∙ ap told c.sigma.ensures.value)
