-- The bound of each step with signed pairs, and what it says of the ends.
use Rattle.std.specs.Prelude.{ℕ, ℤ}
use mathlib.Core.Path.{◌≡◌}
use mathlib.Core.Bool.{Bool, cond}
use mathlib.Core.Logic.{◌⊎◌, inl, inr}
use Prim.Native.Nat.{ℕ, ◌+◌, ◌^◌, ◌≤◌, ◌<◌}
use native.Mathlib.Nat.{lt_irrefl, mul-le-mul}
use native.Mathlib.Omega.{arith}
use lib.IntN.{ℤ, pos, neg_ℤ, nat_abs, ◌+ℤ◌}
use lib.Signed.{le_z, ◌≤ℤ◌}
use Rattle.toolbox_theory.proofs.Tests.{by_test}
use Rattle.toolbox_theory.specs.Whole.{up, down}
use Rattle.toolbox_theory.proofs.Whole.{narrower, neg_is, sub_is, ≤ℤ_in, ≤ℤ_trans}
use Rattle.signed_theory.proofs.Laws.{difference_small}
use Rattle.interval_theory.specs.declared.Ends.{Ends}
use Rattle.interval_theory.specs.declared.SignedPair.{SignedPair}
use Rattle.interval_theory.specs.Natural.{product_of, sum_of}
use Rattle.interval_theory.specs.Signed.{Moderate, plus_of, minus_of, times_of, SmallerThan, between_of, ends_of}
use Rattle.interval_theory.specs.Signed.{greater, signed_hull_of}
use Rattle.interval_theory.specs.Bound.{Bound, Within, SignedWithin, sum_bound, times_bound, Ranges, Reaches}
use Rattle.interval_theory.specs.Bound.{Near}
use Rattle.interval_theory.proofs.NaturalBounds.{Fits, product_within}

-- −2^53 is 2^53 in absolute value, and not below: no such end is smaller than 2^53
pub minus_2_to_53 : (e : Ends ℤ) → (e.low ≡ neg_ℤ (pos (2 ^ 53))) ⊎ (e.high ≡ neg_ℤ (pos (2 ^ 53))) →
    SmallerThan (2 ^ 53) e → ⊥
minus_2_to_53 e (inl is) h = lt_irrefl (2 ^ 53) (rw is at h.low)
minus_2_to_53 e (inr is) h = lt_irrefl (2 ^ 53) (rw is at h.high)

pub signed_wider : {a : SignedPair} {α β : Bound} → SignedWithin a α → Fits α β → SignedWithin a β
signed_wider z f = omega arith

-- small enough to be added
pub moderate : {a : SignedPair} {α : Bound} → SignedWithin a α → α.most < 2 ^ 62 → Moderate a
moderate z h = omega arith

-- a gain and a loss, each with its bound
pub pair_of : {x y : Ends ℕ} {α β : Bound} → Within x α → Within y β →
    SignedWithin (record { gain = x; loss = y }) (sum_bound α β)
pair_of p q = omega arith

module _ {a b : SignedPair} {α β : Bound} (p : SignedWithin a α) (q : SignedWithin b β) where
  pub plus_within : SignedWithin (plus_of a b) (sum_bound α β)
  unfolding plus_of sum_of
  plus_within = omega arith

  pub minus_within : SignedWithin (minus_of a b) (sum_bound α β)
  unfolding minus_of sum_of
  minus_within = omega arith

-- ---- products

pub times_within : {a : SignedPair} {e : Ends ℕ} {α β : Bound} → SignedWithin a α → Within e β →
    SignedWithin (times_of a e) (times_bound α β)
unfolding times_of product_of sum_of
times_within {a} {e} {α} {β} p q =
    let sum : Within (sum_of a.gain a.loss) α = omega arith in
    omega (arith, product_within sum q, mul-le-mul p.gain q.order, mul-le-mul p.loss q.order)

-- ---- where the ends lie

-- what lies from −l to m is at most l + m apart
pub ranges_near : {l m : ℕ} {a b : SignedPair} → Ranges l m a → Ranges l m b → Near (l + m) a b
ranges_near p q = omega arith

-- ---- the ends

module _ (a b c d : ℕ) where
  pub between_narrow : (w : ℕ) → c + b ≤ a + d + w → (between_of a b c d).high ≤ℤ ((between_of a b c d).low +ℤ pos w)
  unfolding between_of
  between_narrow w h = narrower c d a b w h

  pub between_small : (n : ℕ) → a < b + n → b < a + n → c < d + n → d < c + n → SmallerThan n (between_of a b c d)
  unfolding between_of
  between_small n p q r s = record { low = difference_small a b n p q; high = difference_small c d n r s }

  pub between_reaches : (l m : ℕ) → b ≤ a + l → c ≤ d + m → Reaches l m (between_of a b c d)
  unfolding between_of up down
  between_reaches l m least most = record {
    least = ≤ℤ_in (omega (arith, sub_is a b, neg_is (pos l)));
    most = ≤ℤ_in (omega (arith, sub_is c d));
  }

pub ends_narrow : (a : SignedPair) {β : Bound} (w : ℕ) → SignedWithin a β → β.width ≤ w →
    (ends_of a).high ≤ℤ ((ends_of a).low +ℤ pos w)
unfolding ends_of
ends_narrow a w s h = between_narrow _ _ _ _ w (omega arith)

pub ends_small : (a : SignedPair) {β : Bound} (n : ℕ) → SignedWithin a β → β.most < n → SmallerThan n (ends_of a)
unfolding ends_of
ends_small a n s h = between_small _ _ _ _ n (omega arith) (omega arith) (omega arith) (omega arith)

-- what lies from −l to m lies from −i to n
pub reaches_more : {l m : ℕ} {e : Ends ℤ} (i n : ℕ) → l ≤ i → m ≤ n → Reaches l m e → Reaches i n e
unfolding up down
reaches_more {l} {m} i n least most r = record {
  least = ≤ℤ_trans (neg_ℤ (pos l)) (≤ℤ_in (omega (arith, neg_is (pos l), neg_is (pos i)))) r.least;
  most = ≤ℤ_trans (pos m) r.most (≤ℤ_in (omega arith));
}

pub ends_reach : (a : SignedPair) {l m : ℕ} → Ranges l m a → Reaches l m (ends_of a)
unfolding ends_of
ends_reach a h = between_reaches _ _ _ _ _ _ h.least h.most

-- ---- the hull of two pairs of ends

either : {y z : ℤ} (b : Bool) (K : ℤ → Type 0) → K y → K z → K (cond b y z)
either b K p q = by_test b K (λ _. p) (λ _. q)

-- no end of either is more than w above any other
pub signed_hull_narrow : (a b : Ends ℤ) (w : ℕ) → a.high ≤ℤ (a.low +ℤ pos w) → a.high ≤ℤ (b.low +ℤ pos w) →
    b.high ≤ℤ (a.low +ℤ pos w) → b.high ≤ℤ (b.low +ℤ pos w) →
    (signed_hull_of a b).high ≤ℤ ((signed_hull_of a b).low +ℤ pos w)
unfolding signed_hull_of
signed_hull_narrow a b w aa ab ba bb =
    either (le_z a.low b.low) (λ l. greater a.high b.high ≤ℤ (l +ℤ pos w))
    (either (le_z a.high b.high) (λ h. h ≤ℤ (a.low +ℤ pos w)) ba aa)
    (either (le_z a.high b.high) (λ h. h ≤ℤ (b.low +ℤ pos w)) bb ab)

pub signed_hull_small : (a b : Ends ℤ) (n : ℕ) → SmallerThan n a → SmallerThan n b →
    SmallerThan n (signed_hull_of a b)
unfolding signed_hull_of
signed_hull_small a b n p q = record {
  low = either (le_z a.low b.low) (λ z. nat_abs z < n) p.low q.low;
  high = either (le_z a.high b.high) (λ z. nat_abs z < n) q.high p.high;
}
