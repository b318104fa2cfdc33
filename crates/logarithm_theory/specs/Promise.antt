-- What is promised of the logarithm's and the root's ends, whatever the engine computes: the last clause of each
-- contract. proofs/Laws shows it of `ln_of` and `root_of`, which the first clause names; nobody has to read those two
-- to believe it.
use Rattle.std.specs.Prelude.{◌≡◌, ℕ, ◌+◌, ◌^◌, ◌≤◌, ◌<◌, pos}
use Rattle.exact_theory.specs.Fraction.{Fraction, ◌over◌, ◌<q◌, ◌-q◌, ◌*q◌}
use Rattle.exact_theory.specs.Pair.{Pair}
use Rattle.exact_theory.specs.Root.{root_values}
use Rattle.exact_theory.specs.Formula.{ln, root, units, ends, Encloses}
use Rattle.interval_theory.specs.declared.Ends.{Ends}

-- ---- ln(a/b)

-- the arguments that the logarithm takes
pub record LnDomain (a b : ℕ) : Type 0 where
  pub least : 1 ≤ b
  pub order : b ≤ a
  pub small : a < 2 ^ 29

-- document 01: "The engine's own logarithm pairs are at most 8 units wide"; request W-211: "at most 2 units wide"
abbrev pub ln_width : ℕ
ln_width = 2

-- document 01: the logarithm pairs "enclose in this sense", at every fineness; "Equal a and b give 0 and 0"
pub record LnEnds (a b : ℕ) (e : Ends ℕ) : Type 0 where
  pub encloses : Encloses (ends (pos e.low) (pos e.high)) (ln a b)
  pub narrow : e.high ≤ e.low + ln_width
  pub same : a ≡ b → (e.low ≡ 0) × (e.high ≡ 0)

-- ---- √X

-- the root's two values are taken at this fineness
abbrev pub root_fineness : ℕ
root_fineness = 131_072

-- how far the ends of a pair are apart
unfoldable pub width : Pair → Fraction
width P = P.high -q P.low

-- √X lies from k/root_fineness to (k + 1)/root_fineness, and 0.01151, the greatest absolute value of c3 in
-- Boore-Atkinson's Table 6, times that over 100 is less than 1 unit wide
pub record RootEnds (X k : ℕ) : Type 0 where
  pub encloses : Encloses (root_values root_fineness k) (root X)
  pub narrow : pos 1151 over 100_000 *q pos 1 over 100 *q width (root_values root_fineness k) <q units (pos 1)
