-- The thresholds of the nonlinear part are in order at every fineness, and so one branch within the other is document
-- 01's three branches.
use Prim.Native.Nat.{ℕ, ◌≤◌}
use native.Mathlib.Omega.{arith}
use Rattle.exact_theory.specs.Fraction.{◌<q◌}
use Rattle.exact_theory.specs.Logarithm.{ln_pair}
use Rattle.exact_theory.specs.Formula.{ln, eval, Defined}
use Rattle.exact_theory.proofs.FractionLaws.{<q-≤q, <q-≤q_trans, neg_below}
use Rattle.exact_theory.proofs.LogarithmLaws.{upper_shorter, ln_proper}
use Rattle.exact_theory.proofs.Branches.{InOrder, three_branches}
use Rattle.boore_atkinson_theory.specs.Tables.{a1, a2}
use Rattle.boore_atkinson_theory.specs.SiteTerm.{nonlinear_part}
use Rattle.boore_atkinson_theory.specs.Branches.{NonlinearBranches}

lower_low : (n : ℕ) → 1 ≤ n → (ln_pair n a1 100).low <q (ln_pair n a2 100).low
unfolding ln_pair
lower_low n h = neg_below (upper_shorter n {a = 100} {c = 9} {b = 3} (omega arith) (omega arith) (omega arith) h)

in_order : (n : ℕ) → 1 ≤ n → InOrder n (ln a1 100) (ln a2 100)
unfolding eval Defined
in_order n h = record {
  first_defined = (omega arith, omega arith);
  second_defined = (omega arith, omega arith);
  low = <q-≤q (lower_low n h);
  high = <q-≤q_trans (lower_low n h) (ln_proper {a = a2} (omega arith) (omega arith) n h).ordered;
}

pub nonlinear_branches : NonlinearBranches
unfolding NonlinearBranches nonlinear_part
nonlinear_branches n h slope p = three_branches n p _ _ _ _ _ h (in_order n h)
