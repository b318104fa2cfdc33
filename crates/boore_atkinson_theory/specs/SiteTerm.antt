-- The site term. Source document 003, from equation 6 on, Tables 3 and 4; document 01, 'The site term'. V_S30 and Table
-- 4's velocities are in tenths of a m/s, accelerations in hundredths of g: 10 is 0.1 g, and 100 is 1 g.
use Rattle.std.specs.Prelude.{cond, ℕ, ◌*◌, ◌/◌, leb, ltb, pos, neg_ℤ}
use Rattle.exact_theory.specs.Fraction.{◌over◌, zero_q, ◌-q◌}
use Rattle.exact_theory.specs.Formula.{Formula, stated, ln, ◌⊕◌, ◌⊖◌, ◌⊗◌, ◌⊘◌, if_up_to}
use Rattle.boore_atkinson_theory.specs.Tables.{SiteAmplification, a1, pga_low, a2, V1, V2, Vref}

-- "Linear part: blin ln(V/760)" (equation 7)
unfoldable pub linear_part : SiteAmplification → ℕ → Formula
linear_part s vs30 = stated s.blin ⊗ ln vs30 Vref

-- "Slope bnl: b1 up to 180; up to 300, (b1 − b2) ln(V/300) / ln(180/300) + b2; below 760, b2 ln(V/760) / ln(300/760);
-- from 760 on, 0. (Turn both logarithms over, so that the divisor is above zero.)" (equations 13a to 13d)
unfoldable pub bnl : SiteAmplification → ℕ → Formula
bnl s vs30 =
    cond (leb vs30 V1) (stated s.b1)
    (cond (leb vs30 V2) (stated (s.b1 -q s.b2) ⊗ ln V2 vs30 ⊘ ln V2 V1 ⊕ stated s.b2)
    (cond (ltb vs30 Vref) (stated s.b2 ⊗ ln Vref vs30 ⊘ ln Vref V2)
    (stated zero_q)))

-- Δx = ln(a2/a1) (equation 11), "x = ln 3": 9/3, with no remainder
unfoldable pub Δx : Formula
Δx = ln (a2 / a1) 1

-- Δy = bnl ln(a2/pga_low) (equation 12), "y = bnl ln 1.5": 90/6 over 10, with no remainder
unfoldable pub Δy : Formula → Formula
Δy slope = slope ⊗ ln (10 * a2 / pga_low) 10

-- "c = (3y − bnl x)/x²" (equation 9)
unfoldable pub c : Formula → Formula
c slope = (stated (pos 3 over 1) ⊗ Δy slope ⊖ slope ⊗ Δx) ⊘ (Δx ⊗ Δx)

-- "d = −(2y − bnl x)/x³" (equation 10)
unfoldable pub d : Formula → Formula
d slope = stated (neg_ℤ (pos 1) over 1) ⊗ (stated (pos 2 over 1) ⊗ Δy slope ⊖ slope ⊗ Δx) ⊘ (Δx ⊗ Δx ⊗ Δx)

-- "bnl ln(0.06/0.1)" (equation 8a)
unfoldable pub low_part : Formula → Formula
low_part slope = slope ⊗ ln pga_low 10

-- "add c z² + d z³ with z = p − ln 0.03" (equation 8b)
unfoldable pub transition : Formula → Formula → Formula
transition slope p =
    let z : Formula = p ⊖ ln a1 100 in
    low_part slope ⊕ (c slope ⊗ (z ⊗ z) ⊕ d slope ⊗ (z ⊗ z ⊗ z))

-- "Above, it is bnl (p − ln 0.1)" (equation 8c); 0.1 is 1 over 10 here
unfoldable pub high_part : Formula → Formula → Formula
high_part slope p = slope ⊗ (p ⊖ ln 1 10)

-- the nonlinear part, its branches "Up to ln 0.03", "Up to ln 0.09" and "Above", on the logarithm p of the rock
-- acceleration; one branch within the other, which is the three branches (`NonlinearBranches`)
unfoldable pub nonlinear_part : Formula → Formula → Formula
nonlinear_part slope p =
    if_up_to p (ln a1 100) (low_part slope) (if_up_to p (ln a2 100) (transition slope p) (high_part slope p))
