use mathlib.Core.Path.{◌∙◌, ap}
use Rattle.idriss_theory.proofs.Accepted.{median_domain}
use Rattle.probes.specs.Probe.{told, probed_idriss}
use Rattle.probes.proofs.Domains.{taken, ends_told, none_told, takes_idriss}
use Rattle.probes.proofs.probe_idriss.Goals as goal

pub returns-then-not-taken : goal.returns-then-not-taken
unfolding probed_idriss
returns-then-not-taken c = none_told _ _ _ c.taken.ensures c.if-not-taken.true

pub median-requires : goal.median-requires
median-requires c =
    let t = taken _ _ c.taken.ensures c.if-not-taken.false in median_domain t.row (takes_idriss t.accepted)

pub returns : goal.returns
unfolding probed_idriss
returns c = ends_told _ _ _ c.taken.ensures c.if-not-taken.false (c.into.ensures ∙ ap told c.median.ensures.value)
