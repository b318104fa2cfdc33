-- What is promised of the ends of a value between two rows, whatever the engine computes.
use Rattle.std.specs.Prelude.{ℕ, ◌^◌, pos, ◌+ℤ◌, ◌≤ℤ◌, ℤ}
use Rattle.exact_theory.specs.Formula.{Formula, ends, Encloses}
use Rattle.interval_theory.specs.declared.Ends.{Ends}
use Rattle.interval_theory.specs.Signed.{SmallerThan}
use Rattle.interval_theory.specs.Bound.{Reaches}

-- e encloses f, at every fineness (demand 3, W-201), is at most w units wide, lies from −l to h, and has ends that a
-- double equals
pub record BetweenEnds (f : Formula) (w l h : ℕ) (e : Ends ℤ) : Type 0 where
  pub encloses : Encloses (ends e.low e.high) f
  pub narrow : e.high ≤ℤ (e.low +ℤ pos w)
  pub reaches : Reaches l h e
  pub small : SmallerThan (2 ^ 53) e
