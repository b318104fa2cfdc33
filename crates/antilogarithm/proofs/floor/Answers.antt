use Rattle.std.proofs.Common.{arith, rules, ◌≡◌, refl, sym, ap, ◌∙◌, ◌<◌, w64, FitsSigned}
use Prim.Native.Nat.{suc}
use mir.ValLaws.{to_z-of_z}
use Rattle.millionths_theory.specs.Evaluation.{most, greatest_passing, up_to, floor_of}
use Rattle.millionths_theory.proofs.Search.{sought, tried}
use Rattle.millionths_theory.proofs.Order.{up_to_falls}
use Rattle.millionths_theory.proofs.Conversion.{last}
use Rattle.antilogarithm.proofs.floor.Goals as goal

pub loop-high-init : goal.loop-high-init
loop-high-init c = record { sought = sought _ most; low_end = sym last }

-- what is tried lies between low and high, and takes the place of the one
pub loop-high-preserved-then-e-z : goal.loop-high-preserved-then-e-z
loop-high-preserved-then-e-z c =
    let l = c.loop-high in
    let e = c.ln_millionths-e in
    let fits : FitsSigned w64 e.result.high = search rules in
    let above : l.low < c.clamp-k.result = omega (arith, c.clamp-k.ensures, c.loop-high-test.true) in
    let below : c.clamp-k.result < l.high = omega (arith, c.clamp-k.ensures, c.loop-high-test.true) in
    let step = tried (up_to_falls _) l.invariant.sought above below (rw (to_z-of_z w64 _ fits, e.ensures) refl) in
    record { sought = step.0 c.if-e-z.true; low_end = l.invariant.low_end }

-- or of the other
pub loop-high-preserved : goal.loop-high-preserved
loop-high-preserved c =
    let l = c.loop-high in
    let e = c.ln_millionths-e in
    let fits_low : FitsSigned w64 e.result.low = search rules in
    let fits : FitsSigned w64 e.result.high = search rules in
    let above : l.low < c.clamp-k.result = omega (arith, c.clamp-k.ensures, c.loop-high-test.true) in
    let below : c.clamp-k.result < l.high = omega (arith, c.clamp-k.ensures, c.loop-high-test.true) in
    let step = tried (up_to_falls _) l.invariant.sought above below (rw (to_z-of_z w64 _ fits, e.ensures) refl) in
    record { sought = step.1 c.if-e-z.false; low_end = to_z-of_z w64 _ fits_low ∙ ap (λ r. r.low) e.ensures }

-- where no number is left between low and high, low is it and high the next
pub returns : goal.returns
unfolding floor_of
returns c =
    let l = c.loop-high in
    let a = greatest_passing (up_to c.args.z) most in
    let left = rw (to_z-of_z w64 c.args.z c.ranges.z) at l.invariant.sought in
    let low : l.low ≡ a = omega (arith, left, c.loop-high-test.false) in
    let high : l.high ≡ suc a = omega (arith, left, c.loop-high-test.false) in
    rw (l.invariant.low_end, high, low) refl
