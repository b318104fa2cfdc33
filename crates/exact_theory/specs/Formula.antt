-- Formulas, the pair of each at fineness n, and what it is that two ends enclose one.
-- Document 01, 'What the numbers mean'.
use Rattle.std.specs.Prelude.{ℕ, ◌≤◌, T, ℤ}
use Rattle.toolbox_theory.specs.Whole.{up}
use Rattle.exact_theory.specs.Fraction.{Fraction, ◌over◌}
use Rattle.exact_theory.specs.Pair.{Pair, Meets, AboveZero, exactly, ◌+p◌, ◌-p◌, ◌*p◌, ◌/p◌, reaches_up_to}
use Rattle.exact_theory.specs.Pair.{reaches_above, branch}
use Rattle.exact_theory.specs.Logarithm.{ln_pair}
use Rattle.exact_theory.specs.Root.{root_pair}

infixl 65 ◌⊕◌ ◌⊖◌
infixl 70 ◌⊗◌ ◌⊘◌
-- "A formula": what the models' equations are written in
pub data Formula : Type 0 where
  -- "a stated number"
  stated : Fraction → Formula
  -- ln a b is ln(a/b)
  ln : ℕ → ℕ → Formula
  -- root X is √X
  root : ℕ → Formula
  -- sum, difference, product, quotient
  ◌⊕◌ : Formula → Formula → Formula
  ◌⊖◌ : Formula → Formula → Formula
  ◌⊗◌ : Formula → Formula → Formula
  ◌⊘◌ : Formula → Formula → Formula
  -- if_up_to e f A B is A where e is up to and including f, and B where e is above f
  if_up_to : Formula → Formula → Formula → Formula → Formula

-- ln x of a fraction x = a/b above zero, by the sums of its own a and b: nothing is cancelled. (For x below zero it is
-- that of 0, which is not `Defined`.)
unfoldable pub ln_q : Fraction → Formula
ln_q x = ln (up x.num) x.den

-- "A formula at fineness n is worked out over such pairs"
unfoldable pub eval : ℕ → Formula → Pair
eval n (stated x) = exactly x
eval n (ln a b) = ln_pair n a b
eval n (root X) = root_pair n X
eval n (e ⊕ f) = eval n e +p eval n f
eval n (e ⊖ f) = eval n e -p eval n f
eval n (e ⊗ f) = eval n e *p eval n f
eval n (e ⊘ f) = eval n e /p eval n f
eval n (if_up_to e f A B) = branch (eval n e) (eval n f) (eval n A) (eval n B)

-- at fineness n every divisor that is worked out is "a pair above zero", and logarithms are of "whole a .. b ≥ 1"
unfoldable pub Defined : ℕ → Formula → Type 0
Defined n (stated x) = Unit {0}
Defined n (ln a b) = (1 ≤ a) × (1 ≤ b)
Defined n (root X) = Unit {0}
Defined n (e ⊕ f) = Defined n e × Defined n f
Defined n (e ⊖ f) = Defined n e × Defined n f
Defined n (e ⊗ f) = Defined n e × Defined n f
Defined n (e ⊘ f) = Defined n e × Defined n f × AboveZero (eval n f)
Defined n (if_up_to e f A B) =
    Defined n e × Defined n f × (T (reaches_up_to (eval n e) (eval n f)) → Defined n A) ×
    (T (reaches_above (eval n e) (eval n f)) → Defined n B)

-- "An answer encloses a formula if at every n some point lies both from its low end to its high end and within the
-- formula's pair, ends included"; n is at least 1, and P has the answer's ends
pub record Encloses (P : Pair) (e : Formula) : Type 0 where
  pub defined : (n : ℕ) → 1 ≤ n → Defined n e
  pub meets : (n : ℕ) → 1 ≤ n → Meets P (eval n e)

-- "One unit is 10^-9 of a natural logarithm": z units
unfoldable pub units : ℤ → Fraction
units z = z over 1_000_000_000

-- the ends of an answer, "signed whole numbers of units"
unfoldable pub ends : ℤ → ℤ → Pair
ends low high = record { low = units low; high = units high }
