-- The greatest whole number whose square is at most m, and what encloses a root.
use mathlib.Core.Path.{◌≡◌}
use Prim.Native.Nat.{ℕ, zero, suc, ◌*◌, ◌≤◌, ◌<◌}
use native.Mathlib.Nat.{mul-le-mul, mul-le-mul_right, one-le-mul}
use native.Mathlib.Decide.{dec_le}
use native.Mathlib.Omega.{arith}
use lib.Dec.{leb, leb→le, nleb→lt}
use Rattle.toolbox_theory.proofs.Tests.{by_test}
use Rattle.exact_theory.specs.Root.{greatest, whole_root, root_values, root_pair}
use Rattle.exact_theory.specs.Formula.{root, eval, Defined, Encloses}
use Rattle.exact_theory.proofs.PairLaws.{Proper, ends_meet}
use Rattle.exact_theory.proofs.Harmonic.{over-≤}

-- k is the root of m, rounded down
pub record IsRoot (m k : ℕ) : Type 0 where
  pub low : k * k ≤ m
  pub high : m < suc k * suc k

greatest_is : (m k : ℕ) → m < suc k * suc k → IsRoot m (greatest m k)
unfolding greatest
greatest_is m zero h = omega arith
greatest_is m (suc k) h =
    by_test (leb (suc k * suc k) m) (IsRoot m) (λ t. record { low = leb→le _ _ t; high = h })
    (λ t. greatest_is m k (nleb→lt _ _ t))

pub whole_root_is : (m : ℕ) → IsRoot m (whole_root m)
unfolding whole_root
whole_root_is m = greatest_is m m (omega arith)

-- squares in order are of numbers in order
root_order : (a b : ℕ) → a * a < b * b → a < b
root_order a b h = elim (dec_le b a) [ yes p ↦ omega (arith, mul-le-mul p p) | no p ↦ omega arith ]

-- it is the only one
pub root_unique : {m j k : ℕ} → IsRoot m j → IsRoot m k → j ≡ k
root_unique {m} {j} {k} p q = omega (arith, root_order j (suc k) (omega arith), root_order k (suc j) (omega arith))

pub root_below : {m k : ℕ} (b : ℕ) → IsRoot m k → m < b * b → k < b
root_below {m} {k} b r h = root_order k b (omega arith)

-- roots at the finenesses m and n: k/m is below (j + 1)/n
roots_cross : (X m n : ℕ) {k j : ℕ} → 1 ≤ m → IsRoot (X * (m * m)) k → IsRoot (X * (n * n)) j → k * n < suc j * m
roots_cross X m n {k} {j} hm p q =
    let low = mul-le-mul_right (n * n) p.low in
    let high = mul-le-mul_right (m * m) q.high in
    root_order (k * n) (suc j * m) (omega (arith, one-le-mul hm hm))

pub values_proper : (n k : ℕ) → 1 ≤ n → Proper (root_values n k)
unfolding root_values
values_proper n k h = record { ordered = over-≤ _ _ h h (omega arith) }

pub encloses_root : (X m : ℕ) {k : ℕ} → 1 ≤ m → IsRoot (X * (m * m)) k → Encloses (root_values m k) (root X)
unfolding eval Defined root_pair root_values
encloses_root X m {k} hm r = record {
  defined = λ n g. tt;
  meets = λ n g.
      let s = whole_root_is (X * (n * n)) in
      ends_meet (values_proper m k hm) (values_proper n _ g) (over-≤ _ _ hm g (omega (arith, roots_cross X m n hm r s)))
      (over-≤ _ _ g hm (omega (arith, roots_cross X n m g s r)));
}
