use mathlib.Core.Path.{◌∙◌, ap}
use borrow.Author.Tests.{eq-eqb, ne_eqb, lt-ltb, le-ltb, le-leb, lt-leb}
use Rattle.probes.specs.Probe.{told_ln, probed_ln}
use Rattle.probes.proofs.probe_ln.Goals as goal
use Rattle.probes.proofs.probe_ln.Goals.{then-b-eq0-via-then-b-eq0, then-b-eq0-via-else-b-eq0+then-a-b}
use Rattle.probes.proofs.probe_ln.Goals.{then-b-eq0-via-else-b-eq0+else-a-b+then-a-ge536870912}

pub returns-then-b-eq0 : goal.returns-then-b-eq0
unfolding probed_ln
returns-then-b-eq0 c = elim c.then-b-eq0.branch [
  | then-b-eq0-via-then-b-eq0 w ↦ simp (eq-eqb _ _ w.if-b-eq0.true)
  | then-b-eq0-via-else-b-eq0+then-a-b w ↦ simp (ne_eqb _ _ w.if-b-eq0.false, lt-ltb _ _ w.if-a-b.true)
  | then-b-eq0-via-else-b-eq0+else-a-b+then-a-ge536870912 w ↦
      simp (ne_eqb _ _ w.if-b-eq0.false, le-ltb _ _ w.if-a-b.false, le-leb _ _ w.if-a-ge536870912.true)
]

pub returns : goal.returns
unfolding probed_ln
returns c =
    simp (ne_eqb _ _ c.if-b-eq0.false, le-ltb _ _ c.if-a-b.false, lt-leb _ _ c.if-a-ge536870912.false)
    (c.into.ensures ∙ ap told_ln c.ln.ensures.value)
