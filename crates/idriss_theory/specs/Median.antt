-- The median. Source document 000, equation 3; document 01, 'Idriss':
-- "α1 + α2 M + α3 (8.5 − M)² − (β1 + β2 M) ln(R + 10) + ξ ln V + γ R + φ F".
use Rattle.std.specs.Prelude.{cond, [], ◌∷◌, ℕ, min, pos}
use Rattle.toolbox_theory.specs.Lists.{among}
use Rattle.exact_theory.specs.Fraction.{Fraction, ◌over◌, ◌+q◌, ◌-q◌, ◌*q◌}
use Rattle.exact_theory.specs.Formula.{Formula, stated, ln_q, ◌⊕◌, ◌⊖◌, ◌⊗◌}
use Rattle.idriss_theory.specs.Tables.{Row}

-- "α1 + α2 M + α3 (8.5 − M)²"
unfoldable pub alpha_part : Row → Fraction → Fraction
alpha_part r M = r.α1 +q r.α2 *q M +q r.α3 *q ((pos 85 over 10 -q M) *q (pos 85 over 10 -q M))

-- "β1 + β2 M"
unfoldable pub beta_factor : Row → Fraction → Fraction
beta_factor r M = r.β1 +q r.β2 *q M

-- "F is 0 for codes 0 and 1, and 1 for 2, 3 and 4" (no other code is accepted)
unfoldable pub F : ℕ → ℕ
F mechanism = cond (among (2 ∷ 3 ∷ 4 ∷ []) mechanism) 1 0

-- "M the magnitude, R the distance in km, V the velocity in m/s", here Vs; "V above 1200 counts as 1200"
unfoldable pub median : Row → ℕ → ℕ → ℕ → ℕ → Formula
median r magnitude rupture_distance vs30 mechanism =
    let M : Fraction = pos magnitude over 100 in
    let R : Fraction = pos rupture_distance over 100 in
    let Vs : Fraction = pos (min vs30 12_000) over 10 in
    stated (alpha_part r M)
    ⊖ stated (beta_factor r M) ⊗ ln_q (R +q pos 10 over 1)
    ⊕ stated r.ξ ⊗ ln_q Vs
    ⊕ stated (r.γ *q R)
    ⊕ stated (r.φ *q pos (F mechanism) over 1)
