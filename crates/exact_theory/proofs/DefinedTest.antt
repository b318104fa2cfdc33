-- A test that a formula is defined, in all its branches; P gives the pairs of the divisors.
use mathlib.Core.Bool.{Bool, true, not, ◌&&◌}
use Prim.Native.Nat.{ℕ}
use lib.Dec.{T, leb, leb→le}
use Rattle.toolbox_theory.proofs.Tests.{and_left, and_right}
use Rattle.exact_theory.specs.Fraction.{le_q, zero_q}
use Rattle.exact_theory.specs.Pair.{Pair}
use Rattle.exact_theory.specs.Formula.{Formula, stated, ln, root, ◌⊕◌, ◌⊖◌, ◌⊗◌, ◌⊘◌, if_up_to, eval, Defined}

unfoldable pub sound : (Formula → Pair) → Formula → Bool
sound P (stated x) = true
sound P (ln a b) = leb 1 a && leb 1 b
sound P (root X) = true
sound P (e ⊕ f) = sound P e && sound P f
sound P (e ⊖ f) = sound P e && sound P f
sound P (e ⊗ f) = sound P e && sound P f
sound P (e ⊘ f) = sound P e && (sound P f && not (le_q (P f).low zero_q))
sound P (if_up_to e f A B) = (sound P e && sound P f) && (sound P A && sound P B)

-- with the pairs at fineness n
pub defined : (n : ℕ) (e : Formula) → T (sound (eval n) e) → Defined n e
unfolding sound Defined
defined n (stated x) t = tt
defined n (ln a b) t = search (and_left, and_right, leb→le)
defined n (root X) t = tt
defined n (e ⊕ f) t = search (and_left, and_right, defined n e, defined n f)
defined n (e ⊖ f) t = search (and_left, and_right, defined n e, defined n f)
defined n (e ⊗ f) t = search (and_left, and_right, defined n e, defined n f)
defined n (e ⊘ f) t = search (and_left, and_right, defined n e, defined n f)
defined n (if_up_to e f A B) t = search (and_left, and_right, defined n e, defined n f, defined n A, defined n B)
