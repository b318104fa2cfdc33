-- Bounds of a logarithm that hold at every fineness: they are in order, add along a chain, keep when a and b are
-- multiplied or divided by one number, and give ends that enclose the logarithm.
use mathlib.Core.Path.{◌≡◌, ap, refl}
use Prim.Native.Nat.{ℕ, zero, suc, ◌+◌, ◌*◌, ◌-◌, ◌≤◌, ◌<◌}
use native.Mathlib.Nat.{le_refl, le_of_lt, le_trans, mul-le-mul_right, lt_of_mul-lt-mul_right, one-le-mul}
use native.Mathlib.Nat.{sub-add_cancel}
use native.Mathlib.Nat.{sub_self}
use native.Mathlib.Numerals.{add-one}
use native.Mathlib.Decide.{dec_le}
use native.Mathlib.Omega.{arith}
use borrow.Author.Tests.{le-leb, lt-leb}
use lib.IntN.{pos}
use Rattle.toolbox_theory.specs.Whole.{up, down}
use Rattle.exact_theory.specs.Fraction.{◌over◌, ◌≤q◌, ◌<q◌, ◌+q◌, neg_q, zero_q}
use Rattle.exact_theory.specs.Pair.{AboveZero}
use Rattle.exact_theory.specs.Logarithm.{harmonic, lower_sum, upper_sum, ln_pair}
use Rattle.exact_theory.specs.Formula.{ln, eval, Defined, Encloses, units, ends}
use Rattle.exact_theory.proofs.FractionLaws.{zero-Is, over-Is, add-Is, le_of, le_as, lt_of, ≤q_refl, ≤q_trans}
use Rattle.exact_theory.proofs.FractionLaws.{≈q-≤q, ≈q_≥q, <q-≤q_trans, add_mono, add_more, add_above}
use Rattle.exact_theory.proofs.FractionLaws.{add_comm_le, neg_anti}
use Rattle.exact_theory.proofs.PairLaws.{Proper, ends_meet}
use Rattle.exact_theory.proofs.Harmonic.{over-≤, over_add, harmonic_split, harmonic_least, harmonic_more}
use Rattle.exact_theory.proofs.Harmonic.{harmonic_most, harmonic_last, finer_upper, finer_lower}

-- x/S is at most the logarithm of a/b, at most each upper sum; and y/S is at least that, at least each lower sum
pub record Bounds (S x y a b : ℕ) : Type 0 where
  pub lower : (n : ℕ) → 1 ≤ n → pos x over S ≤q upper_sum n a b
  pub upper : (n : ℕ) → 1 ≤ n → lower_sum n a b ≤q pos y over S

-- wider bounds, over another denominator
pub bounds_wider : (S x y : ℕ) {R v w a b : ℕ} → 1 ≤ S → 1 ≤ R → x * R ≤ v * S → w * S ≤ y * R →
    Bounds R v w a b → Bounds S x y a b
bounds_wider S x y {v = v} {w} h_s hR p q b = record {
  lower = λ n g. ≤q_trans (over-≤ x v h_s hR p) (b.lower n g);
  upper = λ n g. ≤q_trans (b.upper n g) (over-≤ w y hR h_s q);
}

-- ---- equal arguments, and a smaller a

zero_lower : (a b S : ℕ) → 1 ≤ b → 1 ≤ S → (n : ℕ) → 1 ≤ n → pos 0 over S ≤q upper_sum n a b
unfolding upper_sum up down
zero_lower a b S hb h n g =
    ≤q_trans (le_of (over-Is (pos 0) S h) zero-Is (omega arith)) (harmonic_least _ _ (one-le-mul hb g))

pub bounds_same : {a S : ℕ} → 1 ≤ a → 1 ≤ S → Bounds S 0 0 a a
unfolding lower_sum harmonic up down
bounds_same {a} {S} ha h = record {
  lower = zero_lower a a S ha h;
  upper = λ n g. rw sub_self (le_of zero-Is (over-Is (pos 0) S h) (omega arith));
}

-- the terms from b by c to a
two_gaps : (n : ℕ) {a c b : ℕ} → b ≤ c → c ≤ a → a * n - b * n ≡ (c * n - b * n) + (a * n - c * n)
two_gaps n hb ha = omega (arith, mul-le-mul_right n hb, mul-le-mul_right n ha)

-- for a from b to a', at least 0, and at most what bounds the logarithm of a'/b
pub bounds_less : {S x y a a' b : ℕ} → 1 ≤ S → 1 ≤ b → b ≤ a → a ≤ a' → Bounds S x y a' b → Bounds S 0 y a b
unfolding lower_sum
bounds_less {S} {a = a} {a'} {b} h_s hb p q u = record {
  lower = zero_lower a b S hb h_s;
  upper = λ n g.
      ≤q_trans (rw (two_gaps n p q) (harmonic_more _ (a' * n - a * n) (suc (b * n)) (omega arith))) (u.upper n g);
}

-- ---- a chain from b by c to a

module _ (n : ℕ) {a c b : ℕ} (hb : b ≤ c) (ha : c ≤ a) where
  upper_chain : upper_sum n a c +q upper_sum n c b ≤q upper_sum n a b
  unfolding upper_sum
  upper_chain =
      let past : b * n + (c * n - b * n) ≡ c * n = omega (arith, mul-le-mul_right n hb) in
      let split = harmonic_split (c * n - b * n) (a * n - c * n) (b * n) in
      ≤q_trans (add_comm_le _ _) (rw (two_gaps n hb ha) (rw past at (≈q_≥q split)))

  lower_chain : lower_sum n a b ≤q lower_sum n a c +q lower_sum n c b
  unfolding lower_sum
  lower_chain =
      let past : suc (b * n) + (c * n - b * n) ≡ suc (c * n) = omega (arith, mul-le-mul_right n hb) in
      let split = harmonic_split (c * n - b * n) (a * n - c * n) (suc (b * n)) in
      ≤q_trans (rw (two_gaps n hb ha) (rw past at (≈q-≤q split))) (add_comm_le _ _)

pub bounds_plus : (S : ℕ) {x y v w a c b : ℕ} → 1 ≤ S → b ≤ c → c ≤ a →
    Bounds S x y a c → Bounds S v w c b → Bounds S (x + v) (y + w) a b
bounds_plus S {x} {y} {v} {w} h_s hb ha p q = record {
  lower = λ n g.
      ≤q_trans (≈q_≥q (over_add x v h_s)) (≤q_trans (add_mono (p.lower n g) (q.lower n g)) (upper_chain n hb ha));
  upper = λ n g.
      ≤q_trans (lower_chain n hb ha) (≤q_trans (add_mono (p.upper n g) (q.upper n g)) (≈q-≤q (over_add y w h_s)));
}

-- ---- what is at most a logarithm is at most what is at least it

harmonic_earlier : (c k : ℕ) → 1 ≤ k → harmonic c k ≤q harmonic c (suc k) +q pos 1 over k
unfolding harmonic up down
harmonic_earlier zero k h = add_more _ (le_of zero-Is (over-Is (pos 1) k h) (omega arith))
harmonic_earlier (suc c) k h =
    ≤q_trans (add_comm_le _ _) (add_mono (rw (add-one c) at (harmonic_more c 1 (suc k) (omega arith))) (≤q_refl _))

-- at fineness n the two sums are at most 1/n apart
sums_near : (n a b : ℕ) → 1 ≤ n → 1 ≤ b → upper_sum n a b ≤q lower_sum n a b +q pos 1 over n
unfolding upper_sum lower_sum
sums_near n a b g hb =
    let h : 1 ≤ b * n = one-le-mul hb g in
    ≤q_trans (harmonic_earlier (a * n - b * n) (b * n) h)
    (add_mono (≤q_refl _) (over-≤ 1 1 h g (omega (arith, mul-le-mul_right n hb))))

-- so at a fineness above S they are less than 1/S apart
pub bounds_order : {S x y v w a b : ℕ} → 1 ≤ S → 1 ≤ b → Bounds S x y a b → Bounds S v w a b → x ≤ w
unfolding up down
bounds_order {S} {x} {w = w} h_s hb p q =
    let n : 1 ≤ suc S = omega arith in
    let near = ≤q_trans (sums_near (suc S) _ _ n hb) (add_mono (q.upper (suc S) n) (≤q_refl _)) in
    let h =
    le_as (over-Is (pos x) S h_s) (add-Is (over-Is (pos w) S h_s) (over-Is (pos 1) (suc S) n))
    (≤q_trans (p.lower (suc S) n) near) in
    omega (arith, lt_of_mul-lt-mul_right (S * suc S) {m = x} {n = suc w} (omega arith))

-- ---- a logarithm is at least (a − b)/a, and at most (a − b)/b

module _ {a b n : ℕ} (hb : 1 ≤ b) (hab : b ≤ a) (g : 1 ≤ n) where
  terms : a * n - b * n ≡ (a - b) * n
  terms = omega (arith, ap (λ (x : ℕ). x * n) (sub-add_cancel hab))

  -- none of the terms of the lower sum is below 1/(a n), and none of the upper sum's above 1/(b n)
  pub lower_least : pos (a - b) over a ≤q lower_sum n a b
  unfolding lower_sum
  lower_least =
      let most : 1 ≤ a * n = one-le-mul (le_trans hb hab) g in
      ≤q_trans (over-≤ (a - b) (a * n - b * n) (le_trans hb hab) most (rw terms (omega arith)))
      (harmonic_last _ _ most (omega arith) (omega (arith, mul-le-mul_right n hab)))

  pub upper_most : upper_sum n a b ≤q pos (a - b) over b
  unfolding upper_sum
  upper_most =
      let first : 1 ≤ b * n = one-le-mul hb g in
      ≤q_trans (harmonic_most (a * n - b * n) (b * n) first)
      (over-≤ (a * n - b * n) (a - b) first hb (rw terms (omega arith)))

module _ {S x y a b : ℕ} (h_s : 1 ≤ S) (hb : 1 ≤ b) (hab : b ≤ a) (p : Bounds S x y a b) where
  pub bounds_least : (a - b) * S ≤ y * a
  unfolding up down
  bounds_least =
      let h = ≤q_trans (lower_least hb hab (le_refl 1)) (p.upper 1 (le_refl 1)) in
      omega (arith, le_as (over-Is (pos (a - b)) a (le_trans hb hab)) (over-Is (pos y) S h_s) h)

  pub bounds_most : x * b ≤ (a - b) * S
  unfolding up down
  bounds_most =
      let h = ≤q_trans (p.lower 1 (le_refl 1)) (upper_most hb hab (le_refl 1)) in
      omega (arith, le_as (over-Is (pos x) S h_s) (over-Is (pos (a - b)) b hb) h)

-- ---- both arguments times r, and back

times : (r a n : ℕ) → r * a * n ≡ a * (r * n)
times r a n = omega arith

pub bounds_times : (r : ℕ) {S x y a b : ℕ} → 1 ≤ r → Bounds S x y a b → Bounds S x y (r * a) (r * b)
unfolding upper_sum lower_sum
bounds_times r {a = a} {b} hr p = record {
  lower = λ n g. rw (times r a n, times r b n) (p.lower (r * n) (one-le-mul hr g));
  upper = λ n g. rw (times r a n, times r b n) (p.upper (r * n) (one-le-mul hr g));
}

pub bounds_over : (r : ℕ) {S x y a b : ℕ} → 1 ≤ r → 1 ≤ b → b ≤ a → Bounds S x y (r * a) (r * b) → Bounds S x y a b
unfolding upper_sum lower_sum
bounds_over r {a = a} {b} hr hb hab p = record {
  lower = λ n g.
      ≤q_trans (p.lower n g) (rw (gap n, start n) (finer_upper r (a * n - b * n) (b * n) hr (one-le-mul hb g)));
  upper = λ n g. ≤q_trans (rw (gap n, start n) (finer_lower r (a * n - b * n) (b * n) hr)) (p.upper n g);
}
  where
    gap : (n : ℕ) → r * a * n - r * b * n ≡ (a * n - b * n) * r
    gap n = omega (arith, ap (λ (x : ℕ). x * r) (sub-add_cancel (mul-le-mul_right n hab)))

    start : (n : ℕ) → r * b * n ≡ b * n * r
    start n = omega arith

-- ---- the pair of a logarithm

harmonic_later : (c k : ℕ) → 1 ≤ k → harmonic c (suc k) ≤q harmonic c k
unfolding harmonic
harmonic_later zero k h = ≤q_refl _
harmonic_later (suc c) k h =
    add_mono (over-≤ 1 1 (omega arith) h (omega arith)) (harmonic_later c (suc k) (omega arith))

harmonic_above : (c k : ℕ) → 1 ≤ c → 1 ≤ k → zero_q <q harmonic c k
unfolding harmonic up down
harmonic_above zero k hc hk = absurd (omega arith)
harmonic_above (suc c) k hc hk =
    <q-≤q_trans (lt_of zero-Is (over-Is (pos 1) k hk) (omega arith))
    (add_more _ (harmonic_least c (suc k) (omega arith)))

-- the sum from a greater b is the lesser
pub upper_shorter : (n : ℕ) {a c b : ℕ} → 1 ≤ b → b < c → c ≤ a → 1 ≤ n → upper_sum n a c <q upper_sum n a b
unfolding upper_sum
upper_shorter n {a} {c} {b} hb p q h =
    let some = harmonic_above (c * n - b * n) (b * n) (omega (arith, mul-le-mul_right n p)) (one-le-mul hb h) in
    <q-≤q_trans (add_above _ some) (upper_chain n (le_of_lt p) q)

module _ {a b : ℕ} (hb : 1 ≤ b) (hab : b ≤ a) where
  -- for a ≥ b the ends are the two sums, in order
  ordered_proper : (n : ℕ) → 1 ≤ n → Proper (ln_pair n a b)
  unfolding ln_pair lower_sum upper_sum
  ordered_proper n g =
      simp (le-leb b a hab) (record { ordered = harmonic_later (a * n - b * n) (b * n) (one-le-mul hb g) })

  pub encloses_ln : {l h : ℕ} → l ≤ h → Bounds 1_000_000_000 l h a b → Encloses (ends (pos l) (pos h)) (ln a b)
  unfolding eval Defined ends units ln_pair
  encloses_ln {l} {h} o p = record {
    defined = λ n g. (le_trans hb hab, hb);
    meets = λ n g.
        ends_meet (record { ordered = over-≤ l h (omega arith) (omega arith) (omega arith) }) (ordered_proper n g)
        (simp (le-leb b a hab) (p.lower n g)) (simp (le-leb b a hab) (p.upper n g));
  }

pub ln_above : {a b : ℕ} → 1 ≤ b → b < a → (n : ℕ) → 1 ≤ n → AboveZero (ln_pair n a b)
unfolding ln_pair lower_sum
ln_above {a} {b} hb hab n g =
    let some = harmonic_above (a * n - b * n) (suc (b * n)) (omega (arith, mul-le-mul_right n hab)) (omega arith) in
    simp (le-leb b a (le_of_lt hab)) (record { above = some })

-- for a < b the ends are those of b/a, negated and exchanged
pub ln_flipped : {a b : ℕ} → a < b → (n : ℕ) →
    ln_pair n a b ≡ record { low = neg_q (ln_pair n b a).high; high = neg_q (ln_pair n b a).low }
unfolding ln_pair
ln_flipped {a} {b} h n = simp (lt-leb b a h, le-leb a b (le_of_lt h)) refl

-- at every fineness the low end is at most the high end
pub ln_proper : {a b : ℕ} → 1 ≤ a → 1 ≤ b → (n : ℕ) → 1 ≤ n → Proper (ln_pair n a b)
ln_proper {a} {b} ha hb n g = elim (dec_le b a) [
  | yes h ↦ ordered_proper hb h n g
  | no h ↦ let l : a < b = omega arith in
      rw (ln_flipped l n) (record { ordered = neg_anti (ordered_proper ha (le_of_lt l) n g).ordered })
]
