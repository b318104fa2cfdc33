-- The motion on rock. Source document 003, equations 3 to 5, Tables 6 and 7; document 01, 'Boore-Atkinson on rock'.
use Rattle.std.specs.Prelude.{cond, ℕ, ◌+◌, ◌*◌, eqb, pos}
use Rattle.exact_theory.specs.Fraction.{Fraction, ◌over◌, le_q, ◌+q◌, ◌-q◌, ◌*q◌, ◌/q◌}
use Rattle.exact_theory.specs.Formula.{Formula, stated, ln_q, root, ◌⊕◌, ◌⊖◌, ◌⊗◌}
use Rattle.boore_atkinson_theory.specs.Tables.{DistanceScaling, Mref, Rref, MagnitudeScaling, Row}

-- ---- equations 3 and 4: the distance term

-- "with RJB and h in hundredths the sum of squares is a whole X"
abbrev pub sum_of_squares : ℕ → ℕ → ℕ
sum_of_squares RJB h = RJB * RJB + h * h

-- R = √(RJB² + h²): "R is its root over 100"
unfoldable pub R : ℕ → Formula
R X = stated (pos 1 over 100) ⊗ root X

-- ln(R/Rref): "R² is X/10000", and "ln R is half of ln(R²)"; the sums are those of X over 10000
unfoldable pub ln_r_over_rref : ℕ → Formula
ln_r_over_rref X = stated (pos 1 over 2) ⊗ ln_q (pos X over 10_000 /q (Rref *q Rref))

-- "c1 + c2 (M − Mref)"
unfoldable pub geometric_spreading : DistanceScaling → Fraction → Fraction
geometric_spreading r M = r.c1 +q r.c2 *q (M -q Mref)

-- "distance term (c1 + c2 (M − Mref)) ln(R/Rref) + c3 (R − Rref)"
unfoldable pub distance_term : DistanceScaling → Fraction → ℕ → Formula
distance_term r M RJB =
    let X : ℕ = sum_of_squares RJB r.h in
    stated (geometric_spreading r M) ⊗ ln_r_over_rref X ⊕ stated r.c3 ⊗ (R X ⊖ stated Rref)

-- ---- equations 5a and 5b: the magnitude term

-- "e is e1 for code 9, e2 for 0, e3 for 1, e4 for 2 and 3" (no other code is accepted)
unfoldable pub e : MagnitudeScaling → ℕ → Fraction
e r mechanism = cond (eqb mechanism 9) r.e1 (cond (eqb mechanism 0) r.e2 (cond (eqb mechanism 1) r.e3 r.e4))

-- "magnitude term e + e5 (M − Mh) + e6 (M − Mh)² up to and including Mh, e + e7 (M − Mh) above"
unfoldable pub magnitude_term : MagnitudeScaling → Fraction → ℕ → Fraction
magnitude_term r M mechanism =
    cond (le_q M r.Mh)
    (e r mechanism +q r.e5 *q (M -q r.Mh) +q r.e6 *q ((M -q r.Mh) *q (M -q r.Mh)))
    (e r mechanism +q r.e7 *q (M -q r.Mh))

-- the motion by a row with no site term; magnitude and projection distance in hundredths
unfoldable pub on_rock : Row → ℕ → ℕ → ℕ → Formula
on_rock r magnitude projection_distance mechanism =
    let M : Fraction = pos magnitude over 100 in
    distance_term r.distance M projection_distance ⊕ stated (magnitude_term r.magnitude M mechanism)
