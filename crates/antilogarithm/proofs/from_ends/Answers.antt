use Rattle.std.proofs.Common.{arith, rules, ◌≡◌, refl, ap, ◌∙◌, ℕ, ℤ, w64, to_z, of_z, FitsSigned}
use mir.ValLaws.{to_z-of_z}
use Rattle.millionths_theory.specs.declared.Floor.{Floor}
use Rattle.millionths_theory.specs.Evaluation.{floor_of, ceiling_after, millionths_from}
use Rattle.millionths_theory.proofs.Conversion.{floored, ceiling_most, from_ends}
use Rattle.antilogarithm.proofs.from_ends.Goals as goal

-- what the first search found, for the low end as it was read back from its bits
lower : (z : ℤ) {a : Floor} → FitsSigned w64 z → a ≡ floor_of (to_z w64 (of_z w64 z)) → a ≡ floor_of z
lower z fits e = e ∙ ap floor_of (to_z-of_z w64 z fits)

-- and the second
upper : (z : ℤ) (a : ℕ) {b : ℕ} → FitsSigned w64 z → b ≡ ceiling_after a (to_z w64 (of_z w64 z)) →
    b ≡ ceiling_after a z
upper z a fits e = e ∙ ap (ceiling_after a) (to_z-of_z w64 z fits)

pub ceiling_after-b-requires : goal.ceiling_after-b-requires
ceiling_after-b-requires c =
    let a = floored _ (lower c.args.e.low (search rules) c.floor-a.ensures) in
    let fits : FitsSigned w64 c.floor-a.result.next = search rules in
    (a.0, to_z-of_z w64 _ fits ∙ a.1)

pub overflow_cast-result : goal.overflow_cast-result
overflow_cast-result c = omega (arith, (floored _ (lower c.args.e.low (search rules) c.floor-a.ensures)).0)

pub overflow_cast-result-2 : goal.overflow_cast-result-2
overflow_cast-result-2 c =
    let z = c.args.e.high in
    let few = (floored _ (lower c.args.e.low (search rules) c.floor-a.ensures)).0 in
    rw (upper z _ (search rules) c.ceiling_after-b.ensures) (omega (arith, ceiling_most _ z few))

pub returns : goal.returns
unfolding millionths_from
returns c =
    let a = lower c.args.e.low (search rules) c.floor-a.ensures in
    let b = upper c.args.e.high _ (search rules) c.ceiling_after-b.ensures in
    let e = from_ends c.args.e (rw (b, a) refl) in
    record { value = e.0; from_ends = e.1 }
