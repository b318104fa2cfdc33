-- The root's two values. Document 01, 'What the numbers mean': "A root of whole X has the lower value k/n, k the
-- greatest whole number with k² ≤ X × n², and the upper value (k + 1)/n."
use Rattle.std.specs.Prelude.{cond, ℕ, zero, suc, ◌*◌, leb, pos}
use Rattle.exact_theory.specs.Fraction.{◌over◌}
use Rattle.exact_theory.specs.Pair.{Pair}

-- the greatest k, up to the second number, with k² ≤ m
unfoldable pub greatest : ℕ → ℕ → ℕ
greatest m zero = zero
greatest m (suc k) = cond (leb (suc k * suc k) m) (suc k) (greatest m k)

-- the greatest k with k² ≤ m
unfoldable pub whole_root : ℕ → ℕ
whole_root m = greatest m m

-- "the lower value k/n .. and the upper value (k + 1)/n"
unfoldable pub root_values : ℕ → ℕ → Pair
root_values n k = record { low = pos k over n; high = pos (suc k) over n }

-- the pair of √X at fineness n
unfoldable pub root_pair : ℕ → ℕ → Pair
root_pair n X = root_values n (whole_root (X * (n * n)))
