use mathlib.Core.Path.{◌∙◌, ap}
use Rattle.boore_atkinson_theory.proofs.Accepted.{median_domain}
use Rattle.probes.specs.Probe.{told, probed_boore_atkinson}
use Rattle.probes.proofs.Domains.{taken, ends_told, none_told, takes_boore_atkinson}
use Rattle.probes.proofs.probe_boore_atkinson.Goals as goal

pub returns-then-not-taken : goal.returns-then-not-taken
unfolding probed_boore_atkinson
returns-then-not-taken c = none_told _ _ _ c.taken.ensures c.if-not-taken.true

pub median-requires : goal.median-requires
median-requires c =
    let t = taken _ _ c.taken.ensures c.if-not-taken.false in median_domain t.row (takes_boore_atkinson t.accepted)

pub returns : goal.returns
unfolding probed_boore_atkinson
returns c = ends_told _ _ _ c.taken.ensures c.if-not-taken.false (c.into.ensures ∙ ap told c.median.ensures.value)
