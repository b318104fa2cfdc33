-- The standard error. Source document 000, equation 4; document 01, 'Idriss': "1.18 + 0.035 ln T − 0.06 M, with T in
-- seconds held to 0.05 to 3 and M held to 5 to 7.5"; document 02, W-201: "sigma of Idriss uses T itself".
use Rattle.std.specs.Prelude.{ℕ, min, max, pos}
use Rattle.exact_theory.specs.Fraction.{Fraction, ◌over◌, ◌*q◌}
use Rattle.exact_theory.specs.Formula.{Formula, stated, ln_q, ◌⊕◌, ◌⊖◌, ◌⊗◌}
use Rattle.scenario_theory.specs.Neighbours.{idriss_printed}

-- x "held to" the range from low to high
abbrev pub clamp : ℕ → ℕ → ℕ → ℕ
clamp low high x = min (max x low) high

-- the period in thousandths of a second, the magnitude in hundredths
unfoldable pub sigma : ℕ → ℕ → Formula
sigma period magnitude =
    let T : Fraction = pos (clamp 50 3_000 (idriss_printed period)) over 1_000 in
    let M : Fraction = pos (clamp 500 750 magnitude) over 100 in
    stated (pos 118 over 100)
    ⊕ stated (pos 35 over 1_000) ⊗ ln_q T
    ⊖ stated (pos 6 over 100 *q M)
