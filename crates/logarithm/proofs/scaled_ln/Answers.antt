use Rattle.std.proofs.Common.{arith, ◌≡◌, ℕ, ◌≤◌}
use Rattle.logarithm_theory.specs.Evaluation.{Mantissa, mantissa_ln_of}
use Rattle.logarithm_theory.proofs.Sum.{mantissa_ln}
use Rattle.logarithm.proofs.scaled_ln.Goals as goal

small : {y r : ℕ} → Mantissa y → r ≡ mantissa_ln_of y → r ≤ 5_680_000_000_000
small m e = rw e (mantissa_ln m).small

pub overflow_add-sum : goal.overflow_add-sum
overflow_add-sum c = omega (arith, small c.requires.mantissa c.mantissa_ln.ensures)

pub overflow_add-result : goal.overflow_add-result
overflow_add-result c = omega (arith, small c.requires.mantissa c.mantissa_ln.ensures)

pub overflow_add-result-2 : goal.overflow_add-result-2
overflow_add-result-2 c = omega (arith, small c.requires.mantissa c.mantissa_ln.ensures)
