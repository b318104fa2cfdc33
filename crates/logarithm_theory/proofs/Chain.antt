-- The ends of ln(a/b), ln(b/c) and ln(a/c) (specs/Chain).
use Prim.Native.Nat.{ℕ, ◌+◌, ◌*◌, ◌-◌, ◌≤◌}
use native.Mathlib.Nat.{le_of_mul-le-mul_right}
use native.Mathlib.Omega.{arith}
use Rattle.exact_theory.proofs.LogarithmLaws.{bounds_plus, bounds_order}
use Rattle.interval_theory.specs.Natural.{unit}
use Rattle.logarithm_theory.specs.Promise.{LnDomain, ln_width}
use Rattle.logarithm_theory.specs.Evaluation.{ln_of}
use Rattle.logarithm_theory.specs.Chain.{LnChain, LnSteps}
use Rattle.logarithm_theory.proofs.Laws.{ln_of_rounded, ln_of_least}

-- k units, where (a − b)/a is at least that
pub at_least : {a b : ℕ} → LnDomain a b → (k : ℕ) → k * a ≤ (a - b) * unit → k ≤ (ln_of a b).high
at_least {a} d k h = le_of_mul-le-mul_right {k = a} (omega (arith, ln_of_least d)) (omega arith)

module _ {a b c : ℕ} (d : LnDomain a c) (hc : c ≤ b) (hb : b ≤ a) where
  upper : LnDomain a b
  upper = omega arith

  lower : LnDomain b c
  lower = omega arith

  pub ln_of_chain : LnChain a b c
  ln_of_chain =
      let whole = (ln_of_rounded d).bounds in
      let sums = bounds_plus unit (omega arith) hc hb (ln_of_rounded upper).bounds (ln_of_rounded lower).bounds in
      omega (arith, bounds_order (omega arith) d.least sums whole, bounds_order (omega arith) d.least whole sums)

  pub ln_of_steps : LnSteps a b c
  ln_of_steps =
      -- both parts are above the whole by three widths at most
      let parts : (ln_of b c).high + (ln_of a b).high ≤ (ln_of a c).low + 3 * ln_width =
      omega (arith, ln_of_chain, (ln_of_rounded d).sized, (ln_of_rounded upper).sized, (ln_of_rounded lower).sized) in
      record {
        numerators = λ g h. omega (arith, at_least upper (g + 3 * ln_width) h);
        denominators = λ g h. omega (arith, at_least lower (g + 3 * ln_width) h);
      }
