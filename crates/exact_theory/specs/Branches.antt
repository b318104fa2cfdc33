-- Three branches on a number p with thresholds s and t that are defined, as Boore-Atkinson's site term has them: A "Up
-- to" s, B "Up to" t and C "Above". Document 01, 'What the numbers mean'.
use Rattle.std.specs.Prelude.{◌≡◌, ℕ}
use Rattle.exact_theory.specs.Fraction.{Fraction, ◌≤q◌, ◌<q◌}
use Rattle.exact_theory.specs.Pair.{Pair, ◌∈◌}
use Rattle.exact_theory.specs.Formula.{Formula, eval, Defined}

module _ (n : ℕ) (p s t A B C : Formula) where
  -- "A branch is reached if points of the compared pairs meet its condition"
  pub data Reached : Formula → Type 0 where
    first : {x y : Fraction} → x ∈ eval n p → y ∈ eval n s → x ≤q y → Reached A
    second : {x y z : Fraction} → x ∈ eval n p → y ∈ eval n s → z ∈ eval n t → y <q x → x ≤q z → Reached B
    third : {x z : Fraction} → x ∈ eval n p → z ∈ eval n t → z <q x → Reached C

  -- "every branch that it reaches is worked out and the pair spans them all": P runs from the least low end to the
  -- greatest high end of these branches, and of no others
  pub record SpansReached (P : Pair) : Type 0 where
    pub least : (g : Formula) → Reached g → P.low ≤q (eval n g).low
    pub greatest : (g : Formula) → Reached g → (eval n g).high ≤q P.high
    pub low_reached : (g : Formula) × Reached g × (P.low ≡ (eval n g).low)
    pub high_reached : (g : Formula) × Reached g × (P.high ≡ (eval n g).high)

  -- f is these branches: its pair spans those that are reached, and it is defined exactly if p and they are
  pub record ThreeBranches (f : Formula) : Type 0 where
    pub spans : Defined n p → SpansReached (eval n f)
    pub defined : Defined n p → ((g : Formula) → Reached g → Defined n g) → Defined n f
    pub only : Defined n f → Defined n p × ((g : Formula) → Reached g → Defined n g)
