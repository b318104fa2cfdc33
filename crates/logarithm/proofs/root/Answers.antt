use Rattle.logarithm_theory.proofs.Laws.{root_of_promise}
use Rattle.logarithm_theory.specs.Evaluation.{root_of}
use Rattle.logarithm.proofs.root.Goals as goal

pub returns-clause-root_ends : goal.returns-clause-root_ends
unfolding root_of
returns-clause-root_ends c = rw c.whole_root.ensures (root_of_promise c.args.x)
