-- Pairs of fractions and their operations.
-- Document 01, 'What the numbers mean': "A formula at fineness n is worked out over such pairs".
use Rattle.std.specs.Prelude.{Bool, not, cond}
use Rattle.exact_theory.specs.Fraction.{Fraction, le_q, ◌≤q◌, ◌<q◌, ◌+q◌, ◌-q◌, ◌*q◌, ◌/q◌, zero_q, min_q, max_q}

-- a low end and a high end
pub record Pair : Type 0 where
  pub low : Fraction
  pub high : Fraction

infix 50 ◌∈◌
-- "some point lies .. from its low end to its high end .., ends included"
pub record ◌∈◌ (x : Fraction) (P : Pair) : Type 0 where
  pub from : P.low ≤q x
  pub to : x ≤q P.high

-- "some point lies both from its low end to its high end and within the formula's pair"
pub record Meets (P Q : Pair) : Type 0 where
  pub point : Fraction
  pub left : point ∈ P
  pub right : point ∈ Q

-- "a pair above zero": its low end is
pub record AboveZero (P : Pair) : Type 0 where
  pub above : zero_q <q P.low

-- "a stated number is a pair of equal ends"
unfoldable pub exactly : Fraction → Pair
exactly x = record { low = x; high = x }

infixl 65 ◌+p◌ ◌-p◌
infixl 70 ◌*p◌ ◌/p◌
-- "sums go end by end"
unfoldable pub ◌+p◌ : Pair → Pair → Pair
P +p Q = record { low = P.low +q Q.low; high = P.high +q Q.high }

-- "a difference takes the low end less the other's high end, and the high end less the other's low"
unfoldable pub ◌-p◌ : Pair → Pair → Pair
P -p Q = record { low = P.low -q Q.high; high = P.high -q Q.low }

-- from the least to the greatest of four
unfoldable pub span4 : Fraction → Fraction → Fraction → Fraction → Pair
span4 a b c d = record { low = min_q (min_q a b) (min_q c d); high = max_q (max_q a b) (max_q c d) }

-- "a product runs from the least to the greatest of the four products"
unfoldable pub ◌*p◌ : Pair → Pair → Pair
P *p Q = span4 (P.low *q Q.low) (P.low *q Q.high) (P.high *q Q.low) (P.high *q Q.high)

-- "a quotient likewise, by a pair above zero"
unfoldable pub ◌/p◌ : Pair → Pair → Pair
P /p Q = span4 (P.low /q Q.low) (P.low /q Q.high) (P.high /q Q.low) (P.high /q Q.high)

-- "the pair spans them all"
unfoldable pub hull : Pair → Pair → Pair
hull P Q = record { low = min_q P.low Q.low; high = max_q P.high Q.high }

-- "A branch is reached if points of the compared pairs meet its condition": here, some point of P is up to some point
-- of Q
unfoldable pub reaches_up_to : Pair → Pair → Bool
reaches_up_to P Q = le_q P.low Q.high

-- and here, some point of P is above some point of Q
unfoldable pub reaches_above : Pair → Pair → Bool
reaches_above P Q = not (le_q P.high Q.low)

-- A where P is up to Q, B where P is above Q: "every branch that it reaches is worked out and the pair spans them all"
unfoldable pub branch : Pair → Pair → Pair → Pair → Pair
branch P Q A B = cond (reaches_up_to P Q) (cond (reaches_above P Q) (hull A B) A) B
