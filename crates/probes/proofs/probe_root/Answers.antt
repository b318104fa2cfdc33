use borrow.Author.Tests.{le-leb, lt-leb}
use Rattle.probes.specs.Probe.{probed_root}
use Rattle.probes.proofs.probe_root.Goals as goal

pub returns-then-x-ge536870912 : goal.returns-then-x-ge536870912
unfolding probed_root
returns-then-x-ge536870912 c = simp (le-leb _ _ c.if-x-ge536870912.true)

pub returns : goal.returns
unfolding probed_root
returns c = simp (lt-leb _ _ c.if-x-ge536870912.false) c.root.ensures.value
