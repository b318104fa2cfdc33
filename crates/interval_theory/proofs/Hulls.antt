-- Interval's `hull` goes by any order. Of whole numbers it is the hull of two pairs that are not below zero, and that
-- of ends of either sign.
use Rattle.std.proofs.Common.{arith, ◌≡◌, refl, sym, Bool, true, false, ℕ, ◌<◌, min, max, ℤ, cond, ◌<ℤ◌}
use Rattle.std.specs.Ordering.{MatchOrdering, is_lt, nat_cmp, int_cmp, ord_min, ord_max}
use Rattle.std.specs.declared.cmp.Ordering.{Ordering}
use Rattle.std.specs.declared.cmp.Ordering.TheVariants.{Less, Equal, Greater}
use Rattle.std.specs.Int.Signed.{le_z}
use Rattle.std.specs.Cmp.{ranks, int_ranks}
use Rattle.toolbox_theory.proofs.Tests.{by_test, is_true}
use Rattle.toolbox_theory.proofs.Whole.{le_in, le_out, lt_out}
use Rattle.interval_theory.specs.declared.Ends.{Ends}
use Rattle.interval_theory.specs.Natural.{hull_of}
use Rattle.interval_theory.specs.Signed.{lesser, greater, signed_hull_of}

-- ---- pairs that are not below zero

least : (m n : ℕ) (o : Ordering) → MatchOrdering o (n < m) (n ≡ m) (m < n) → cond (is_lt o) n m ≡ min m n
least m n Less h = omega arith
least m n Equal h = omega arith
least m n Greater h = omega arith

greatest : (m n : ℕ) (o : Ordering) → MatchOrdering o (n < m) (n ≡ m) (m < n) → cond (is_lt o) m n ≡ max m n
greatest m n Less h = omega arith
greatest m n Equal h = omega arith
greatest m n Greater h = omega arith

pub hull_is : {r : Ends ℕ} (a b : Ends ℕ) → r.low ≡ ord_min nat_cmp a.low b.low →
    r.high ≡ ord_max nat_cmp a.high b.high → r ≡ hull_of a b
unfolding hull_of
hull_is a b low high =
    rw (low, high, least a.low b.low _ (ranks b.low a.low), greatest a.high b.high _ (ranks b.high a.high))

-- ---- ends of either sign

not_above : (y z : ℤ) → y <ℤ z → le_z y z ≡ true
not_above y z h = is_true (le_z y z) (le_in y z (omega (arith, lt_out y z h.lt)))

above : (y z : ℤ) → z <ℤ y → (t : Bool) → le_z y z ≡ t → t ≡ false
above y z h false e = refl
above y z h true e = let no : ⊥ = omega (arith, le_out y z (rw e tt), lt_out z y h.lt) in absurd no

signed_least : (y z : ℤ) (o : Ordering) → MatchOrdering o (z <ℤ y) (z ≡ y) (y <ℤ z) → cond (is_lt o) z y ≡ lesser y z
signed_least y z Less h = rw (above y z h (le_z y z) refl) refl
signed_least y z Equal h = by_test (le_z y z) (λ v. y ≡ v) (λ _. refl) (λ _. sym h)
signed_least y z Greater h = rw (not_above y z h) refl

signed_greatest : (y z : ℤ) (o : Ordering) → MatchOrdering o (z <ℤ y) (z ≡ y) (y <ℤ z) →
    cond (is_lt o) y z ≡ greater y z
signed_greatest y z Less h = rw (above y z h (le_z y z) refl) refl
signed_greatest y z Equal h = by_test (le_z y z) (λ v. z ≡ v) (λ _. refl) (λ _. h)
signed_greatest y z Greater h = rw (not_above y z h) refl

pub signed_hull_is : {r : Ends ℤ} (a b : Ends ℤ) → r.low ≡ ord_min int_cmp a.low b.low →
    r.high ≡ ord_max int_cmp a.high b.high → r ≡ signed_hull_of a b
unfolding signed_hull_of
signed_hull_is a b low high =
    rw (
      low,
      high,
      signed_least a.low b.low _ (int_ranks b.low a.low),
      signed_greatest a.high b.high _ (int_ranks b.high a.high),
    )
