use Rattle.logarithm_theory.proofs.Octave.{quotient_zeros}
use Rattle.logarithm.proofs.scale.Goals as goal

pub overflow_sub-k : goal.overflow_sub-k
overflow_sub-k c = quotient_zeros c.requires
