use Rattle.std.proofs.Common.{rules, ◌≡◌, ap, ◌∙◌, refl, ℤ, w64, to_z, of_z, FitsSigned}
use lib.Ieee.{Float}
use mir.ValLaws.{to_z-of_z}
use Rattle.engine_theory.specs.Evaluation.{double_of, doubles_of}
use Rattle.doubles.proofs.as_doubles.Goals as goal

-- the double of a field, which is read from its bits, is that of the field
of_field : {x : Float} (z : ℤ) → FitsSigned w64 z → x ≡ double_of (to_z w64 (of_z w64 z)) → x ≡ double_of z
of_field z fits e = e ∙ ap double_of (to_z-of_z w64 z fits)

pub returns : goal.returns
unfolding doubles_of
returns c =
    let e = c.args.e in
    rw (
      of_field e.median.low (search rules) c.double.ensures,
      of_field e.median.high (search rules) c.double-2.ensures,
      of_field e.sigma.low (search rules) c.double-3.ensures,
      of_field e.sigma.high (search rules) c.double-4.ensures,
    ) refl
