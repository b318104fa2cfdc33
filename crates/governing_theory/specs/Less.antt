-- What it is that one enclosed value is less than another, of any two pairs of ends: request W-206.
use Rattle.std.specs.Prelude.{ℕ, ◌≤◌}
use Rattle.exact_theory.specs.Fraction.{Fraction, ◌<q◌}
use Rattle.exact_theory.specs.Pair.{Pair, ◌∈◌}
use Rattle.exact_theory.specs.Formula.{Formula, eval, Encloses}

-- at fineness n some point of f's pair, between the ends P, is below some point of g's pair, between the ends Q
pub record ValueBelow (n : ℕ) (P : Pair) (f : Formula) (Q : Pair) (g : Formula) : Type 0 where
  pub lesser : Fraction
  pub greater : Fraction
  pub lesser_in : (lesser ∈ P) × (lesser ∈ eval n f)
  pub greater_in : (greater ∈ Q) × (greater ∈ eval n g)
  pub below : lesser <q greater

-- "its enclosed value is the less": every point between the ends P is below every point between the ends Q, and so,
-- whatever formulas they enclose, at every fineness
pub record Less (P Q : Pair) : Type 0 where
  pub points : {x y : Fraction} → x ∈ P → y ∈ Q → x <q y
  pub values : (f g : Formula) → Encloses P f → Encloses Q g → (n : ℕ) → 1 ≤ n → ValueBelow n P f Q g
