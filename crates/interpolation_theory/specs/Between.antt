-- Between two rows. Document 02, W-201: "With T1 and T2 the neighbours and v1, v2 their logarithms, the value is
-- v1 + (v2 − v1) ln(T/T1) / ln(T2/T1)".
use Rattle.std.specs.Prelude.{ℕ}
use Rattle.exact_theory.specs.Formula.{Formula, ln, ◌⊕◌, ◌⊖◌, ◌⊗◌, ◌⊘◌}

-- the periods are whole numbers of thousandths of a second
unfoldable pub between : ℕ → ℕ → ℕ → Formula → Formula → Formula
between T T1 T2 v1 v2 = v1 ⊕ (v2 ⊖ v1) ⊗ ln T T1 ⊘ ln T2 T1
