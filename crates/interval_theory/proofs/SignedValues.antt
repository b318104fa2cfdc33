-- What the steps with signed pairs and with ends of either sign hold.
use Rattle.std.specs.Prelude.{ℕ, ℤ}
use Prim.Native.Nat.{◌+◌, ◌≤◌}
use native.Mathlib.Omega.{arith}
use lib.IntN.{ℤ}
use lib.Signed.{le_z}
use Rattle.toolbox_theory.specs.Whole.{up, down}
use Rattle.toolbox_theory.proofs.Tests.{by_test}
use Rattle.toolbox_theory.proofs.Whole.{le_out, gt_out}
use Rattle.exact_theory.specs.Fraction.{Fraction, ◌≤q◌, ◌+q◌, ◌-q◌, ◌*q◌}
use Rattle.exact_theory.specs.Pair.{◌∈◌}
use Rattle.exact_theory.specs.Formula.{units, ends}
use Rattle.exact_theory.proofs.FractionLaws.{over-Is, ≤q_refl, ≤q_trans, le_of}
use Rattle.exact_theory.proofs.UnitLaws.{Lies, lies_ends, lies_sum, lies_difference}
use Rattle.interval_theory.specs.declared.Ends.{Ends}
use Rattle.interval_theory.specs.declared.SignedPair.{SignedPair}
use Rattle.interval_theory.specs.Natural.{unit, product_of, sum_of}
use Rattle.interval_theory.specs.Signed.{plus_of, minus_of, times_of, between_of, ends_of, lesser, greater}
use Rattle.interval_theory.specs.Signed.{signed_hull_of}
use Rattle.interval_theory.proofs.NaturalValues.{Held, product_lies}

-- x is something between gain's ends less something between loss's
abbrev pub LiesIn : Fraction → SignedPair → Type 0
LiesIn x a = Lies x a.gain.low a.loss.high a.gain.high a.loss.low

pub plus_lies : {x y : Fraction} {a b : SignedPair} → LiesIn x a → LiesIn y b → LiesIn (x +q y) (plus_of a b)
unfolding plus_of sum_of
plus_lies h k = lies_sum h k

pub minus_lies : {x y : Fraction} {a b : SignedPair} → LiesIn x a → LiesIn y b → LiesIn (x -q y) (minus_of a b)
unfolding minus_of sum_of
minus_lies h k = lies_difference h k

pub times_lies : {x y : Fraction} {a : SignedPair} {e : Ends ℕ} → LiesIn x a → Held y e → a.gain.low ≤ a.gain.high →
    a.loss.low ≤ a.loss.high → LiesIn (x *q y) (times_of a e)
unfolding times_of product_of
times_lies h k gains losses =
    product_lies h k gains losses _ _ _ _ (omega arith) (omega arith) (omega arith) (omega arith)

-- ---- ends of either sign

pub in_ends : {x : Fraction} (a : SignedPair) → LiesIn x a → x ∈ ends (ends_of a).low (ends_of a).high
unfolding ends_of between_of
in_ends a h = lies_ends h

-- ---- the hull of two pairs of ends

-- a unit more is not less
pub units_rise : (y z : ℤ) → up y + down z ≤ up z + down y → units y ≤q units z
unfolding units
units_rise y z h = le_of (over-Is y unit (omega arith)) (over-Is z unit (omega arith)) (omega arith)

-- what is below the lesser of two ends is below both, and what is above the greater above both
module _ (y z : ℤ) where
  lesser_below : (units (lesser y z) ≤q units y) × (units (lesser y z) ≤q units z)
  lesser_below =
      by_test (le_z y z) (λ v. (units v ≤q units y) × (units v ≤q units z))
      (λ t. (≤q_refl _, units_rise y z (le_out y z t))) (λ t. (units_rise z y (omega (arith, gt_out y z t)), ≤q_refl _))

  greater_above : (units y ≤q units (greater y z)) × (units z ≤q units (greater y z))
  greater_above =
      by_test (le_z y z) (λ v. (units y ≤q units v) × (units z ≤q units v))
      (λ t. (units_rise y z (le_out y z t), ≤q_refl _)) (λ t. (≤q_refl _, units_rise z y (omega (arith, gt_out y z t))))

module _ {x : Fraction} (a b : Ends ℤ) where
  pub signed_hull_left : x ∈ ends a.low a.high → x ∈ ends (signed_hull_of a b).low (signed_hull_of a b).high
  unfolding signed_hull_of ends
  signed_hull_left h = search (≤q_trans, lesser_below a.low b.low, greater_above a.high b.high, h)

  pub signed_hull_right : x ∈ ends b.low b.high → x ∈ ends (signed_hull_of a b).low (signed_hull_of a b).high
  unfolding signed_hull_of ends
  signed_hull_right h = search (≤q_trans, lesser_below a.low b.low, greater_above a.high b.high, h)
