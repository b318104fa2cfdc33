-- The logarithm's two sums. Document 01, 'What the numbers mean': "For whole a ≥ b ≥ 1 and fineness n ≥ 1, ln(a/b) has
-- the lower sum of 1/k for k from bn + 1 to an, and the upper sum of 1/k for k from bn to an − 1. Equal a and b give 0
-- and 0."
use Rattle.std.specs.Prelude.{cond, ℕ, zero, suc, ◌*◌, ◌-◌, leb, pos}
use Rattle.exact_theory.specs.Fraction.{Fraction, ◌over◌, zero_q, ◌+q◌, neg_q}
use Rattle.exact_theory.specs.Pair.{Pair}

-- 1/k + 1/(k + 1) + .., so many terms
unfoldable pub harmonic : ℕ → ℕ → Fraction
harmonic zero k = zero_q
harmonic (suc terms) k = pos 1 over k +q harmonic terms (suc k)

-- "the lower sum of 1/k for k from bn + 1 to an"
unfoldable pub lower_sum : ℕ → ℕ → ℕ → Fraction
lower_sum n a b = harmonic (a * n - b * n) (suc (b * n))

-- "the upper sum of 1/k for k from bn to an − 1"
unfoldable pub upper_sum : ℕ → ℕ → ℕ → Fraction
upper_sum n a b = harmonic (a * n - b * n) (b * n)

-- the pair of ln(a/b) at fineness n; "For a < b it is the negative of ln(b/a), the sums exchanged"
unfoldable pub ln_pair : ℕ → ℕ → ℕ → Pair
ln_pair n a b =
    cond (leb b a)
    record { low = lower_sum n a b; high = upper_sum n a b }
    record { low = neg_q (upper_sum n b a); high = neg_q (lower_sum n b a) }
