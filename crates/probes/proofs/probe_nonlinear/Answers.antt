use mathlib.Core.Path.{◌∙◌, refl, ap}
use borrow.Author.Tests.{lt-ltb, le-ltb}
use Rattle.probes.specs.Probe.{told, probed_nonlinear}
use Rattle.probes.proofs.Domains.{taken, ends_told, none_told, takes_boore_atkinson}
use Rattle.probes.proofs.probe_nonlinear.Goals as goal
use Rattle.probes.proofs.probe_nonlinear.Goals.{then-high-low-via-then-high-low}
use Rattle.probes.proofs.probe_nonlinear.Goals.{then-high-low-via-else-high-low+then-not-taken}

pub returns-then-high-low : goal.returns-then-high-low
unfolding probed_nonlinear
returns-then-high-low c = elim c.then-high-low.branch [
  | then-high-low-via-then-high-low w ↦ rw (lt-ltb _ _ w.if-high-low.true) refl
  | then-high-low-via-else-high-low+then-not-taken w ↦
      rw (le-ltb _ _ w.if-high-low.false) (none_told _ _ _ w.taken.ensures w.if-not-taken.true)
]

pub nonlinear-requires : goal.nonlinear-requires
nonlinear-requires c =
    let t = taken _ _ c.taken.ensures c.if-not-taken.false in
    let w = takes_boore_atkinson t.accepted in
    record { row = t.row; slow = w.velocity_low; fast = w.velocity_high; order = c.if-high-low.false }

pub returns : goal.returns
unfolding probed_nonlinear
returns c =
    rw (le-ltb _ _ c.if-high-low.false)
    (ends_told _ _ _ c.taken.ensures c.if-not-taken.false (c.into.ensures ∙ ap told c.nonlinear.ensures.value))
