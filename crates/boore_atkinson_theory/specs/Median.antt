-- The median and sigma of Boore and Atkinson 2008.
use Rattle.std.specs.Prelude.{cond, ℕ, eqb}
use Rattle.exact_theory.specs.Formula.{Formula, stated, ◌⊕◌}
use Rattle.boore_atkinson_theory.specs.Tables.{Total, Row, row_for}
use Rattle.boore_atkinson_theory.specs.Rock.{on_rock}
use Rattle.boore_atkinson_theory.specs.SiteTerm.{linear_part, bnl, nonlinear_part}

-- the paper's ln(pga4nl): "Let p be ln of the rock acceleration: the PGA row with the scenario's own mechanism, no site
-- term. Caption 6 names Rref 5 for it; the text equates it with PGA, and 1 km is used"
unfoldable pub p : ℕ → ℕ → ℕ → Formula
p magnitude projection_distance mechanism = on_rock (row_for 0) magnitude projection_distance mechanism

-- "the distance term, the magnitude term, the linear part and the nonlinear part added"
unfoldable pub median : Row → ℕ → ℕ → ℕ → ℕ → Formula
median r magnitude projection_distance vs30 mechanism =
    on_rock r magnitude projection_distance mechanism
    ⊕ linear_part r.site vs30
    ⊕ nonlinear_part (bnl r.site vs30) (p magnitude projection_distance mechanism)

-- "Sigma is the exact table value, total, of Table 8: unspecified for code 9, specified otherwise"
unfoldable pub sigma : Total → ℕ → Formula
sigma t mechanism = stated (cond (eqb mechanism 9) t.σTU t.σTM)
