use Rattle.std.proofs.Common.{arith, rules, ◌≡◌, refl, sym, ap, ◌∙◌, ◌+◌, ◌-◌, w64, to_z, of_z, FitsSigned}
use Rattle.std.specs.Prelude.{not}
use Prim.Native.Nat.{suc}
use mir.ValLaws.{to_z-of_z}
use Rattle.millionths_theory.specs.Evaluation.{most, at_least, ceiling_after}
use Rattle.millionths_theory.proofs.Search.{first_here, first_none, first_next}
use Rattle.antilogarithm.proofs.ceiling_after.Goals as goal

pub loop-k-init : goal.loop-k-init
unfolding ceiling_after
loop-k-init c =
    let a = c.args.a in
    let left : suc most - (a + 1) ≡ most - a = omega arith in
    let next : a + 1 ≡ suc a = omega arith in
    record { low_end = rw (to_z-of_z w64 c.args.next c.ranges.next) c.requires.1; first = rw (left, next) refl }

-- k passes
pub returns-then-z-low : goal.returns-then-z-low
returns-then-z-low c =
    let l = c.loop-k in
    let z = to_z w64 (of_z w64 c.args.z) in
    let here =
    first_here (at_least z) (suc most - l.k) l.k (ap not (rw l.invariant.low_end at c.if-z-low.true)) in
    rw (to_z-of_z w64 c.args.z c.ranges.z) at (sym here ∙ l.invariant.first)

-- k fails, and so the first from k on is the first from the next on
pub loop-k-preserved : goal.loop-k-preserved
loop-k-preserved c =
    let l = c.loop-k in
    let z = to_z w64 (of_z w64 c.args.z) in
    let ln = c.ln_millionths-low in
    let fits : FitsSigned w64 ln.result.low = search rules in
    let fails = ap not (rw l.invariant.low_end at c.if-z-low.false) in
    let left : suc most - l.k ≡ suc (suc most - suc l.k) = omega (arith, c.loop-k-test.true) in
    let next : l.k + 1 ≡ suc l.k = omega arith in
    record {
      low_end = to_z-of_z w64 _ fits ∙ ap (λ e. e.low) ln.ensures;
      first = rw next (sym (first_next (at_least z) _ _ fails) ∙ rw (← left) l.invariant.first);
    }

-- none is left after the last
pub returns : goal.returns
returns c =
    let l = c.loop-k in
    let end : l.k ≡ suc most = omega (arith, c.loop-k-test.false, l.auto.k-end, c.requires.0) in
    let none : suc most - l.k ≡ 0 = omega (arith, c.loop-k-test.false) in
    rw end at (sym (first_none _ _) ∙ (rw (none, to_z-of_z w64 c.args.z c.ranges.z) at l.invariant.first))
