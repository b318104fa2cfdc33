-- The nonlinear part is document 01's three branches ('The site term'): `nonlinear_part` has one within the other.
use Rattle.std.specs.Prelude.{ℕ, ◌≤◌}
use Rattle.exact_theory.specs.Formula.{Formula, ln}
use Rattle.exact_theory.specs.Branches.{ThreeBranches}
use Rattle.boore_atkinson_theory.specs.Tables.{a1, a2}
use Rattle.boore_atkinson_theory.specs.SiteTerm.{low_part, transition, high_part, nonlinear_part}

-- "Up to ln 0.03 ..", "Up to ln 0.09 add ..", "Above, .." (equations 8a to 8c), at every fineness, for any slope and p
unfoldable pub NonlinearBranches : Type 0
NonlinearBranches =
    (n : ℕ) → 1 ≤ n → (slope p : Formula) →
    ThreeBranches n p (ln a1 100) (ln a2 100) (low_part slope) (transition slope p) (high_part slope p)
    (nonlinear_part slope p)
