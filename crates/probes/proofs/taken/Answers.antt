use mathlib.Core.Path.{ap}
use borrow.Author.Tests.{le-leb, lt-leb, le-ltb}
use lib.Dec.{eqb}
use Rattle.probes.specs.Probe.{is_taken}
use Rattle.probes.proofs.taken.Goals as goal

pub returns-then-k-lt22 : goal.returns-then-k-lt22
unfolding is_taken
returns-then-k-lt22 c = rw (lt-leb _ _ c.if-k-lt22.true) (ap (λ r. eqb r 0) c.refusal.ensures)

pub returns-else-k-lt22 : goal.returns-else-k-lt22
unfolding is_taken
returns-else-k-lt22 c = simp (le-leb _ _ c.if-k-lt22.false, le-ltb _ _ c.if-k-lt22.false)
