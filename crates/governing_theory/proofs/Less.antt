-- Ends of which the one's high end is below the other's low end: the enclosed value is the less.
use native.Mathlib.Omega.{arith}
use lib.IntN.{ℤ}
use lib.Signed.{◌<ℤ◌}
use Rattle.toolbox_theory.proofs.Whole.{lt_out}
use Rattle.exact_theory.specs.Fraction.{Fraction, ◌<q◌}
use Rattle.exact_theory.specs.Pair.{Pair, ◌∈◌}
use Rattle.exact_theory.specs.Formula.{units, ends}
use Rattle.exact_theory.proofs.FractionLaws.{over-Is, lt_of, ≤q-<q_trans, <q-≤q_trans}
use Rattle.governing_theory.specs.Less.{Less}

-- a unit more is more
units_rise : {y z : ℤ} → y <ℤ z → units y <q units z
unfolding units
units_rise {y} {z} h =
    lt_of (over-Is y 1_000_000_000 (omega arith)) (over-Is z 1_000_000_000 (omega arith))
    (omega (arith, lt_out y z h.lt))

-- of pairs of which the one ends before the other begins
apart : {P Q : Pair} → P.high <q Q.low → Less P Q
apart {P} {Q} h =
    record {
      points = points;
      values = λ f g p q n fine.
          let a = p.meets n fine in
          let b = q.meets n fine in
          record {
            lesser = a.point;
            greater = b.point;
            lesser_in = (a.left, a.right);
            greater_in = (b.left, b.right);
            below = points a.left b.left;
          };
    }
  where
    points : {x y : Fraction} → x ∈ P → y ∈ Q → x <q y
    points a b = <q-≤q_trans (≤q-<q_trans a.to h) b.from

pub less : (low : ℤ) {high low' : ℤ} (high' : ℤ) → high <ℤ low' → Less (ends low high) (ends low' high')
unfolding ends
less low high' h = apart (units_rise h)
