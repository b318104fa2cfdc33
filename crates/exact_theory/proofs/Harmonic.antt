-- Sums of unit fractions: split in two, compared with weights over one denominator, and made finer.
use mathlib.Core.Path.{◌≡◌, refl, ap}
use Prim.Native.Nat.{ℕ, zero, suc, ◌+◌, ◌*◌, ◌-◌, ◌≤◌, ◌<◌}
use native.Mathlib.Nat.{le_refl, add-zero, zero-add, zero-mul, suc-add, add-suc, one-le-mul, sub-add_cancel}
use native.Mathlib.Omega.{arith}
use lib.IntN.{pos}
use Rattle.toolbox_theory.specs.Whole.{up, down}
use Rattle.exact_theory.specs.Fraction.{◌over◌, ◌≤q◌, ◌≈q◌, ◌+q◌, zero_q}
use Rattle.exact_theory.specs.Logarithm.{harmonic}
use Rattle.exact_theory.proofs.AlgebraLaws.{≈q_refl, ≈q_trans, add_cong}
use Rattle.exact_theory.proofs.FractionLaws.{zero-Is, over-Is, add-Is, le_of, ≤q_refl, ≤q_trans, eq_of}
use Rattle.exact_theory.proofs.FractionLaws.{≈q-≤q, ≈q_≥q, ≈q_sym, add_mono, add_more, add_assoc, zero_q_add}

-- ---- n / d with n not negative

pub over-≤ : (n m : ℕ) {d e : ℕ} → 1 ≤ d → 1 ≤ e → n * e ≤ m * d → pos n over d ≤q pos m over e
unfolding up down
over-≤ n m {d} {e} hd he h = le_of (over-Is (pos n) d hd) (over-Is (pos m) e he) (omega arith)

pub over_add : (n m : ℕ) {d : ℕ} → 1 ≤ d → (pos n over d) +q (pos m over d) ≈q pos (n + m) over d
unfolding up down
over_add n m {d} h = eq_of (add-Is (over-Is _ d h) (over-Is _ d h)) (over-Is _ d h) (omega arith)

-- ---- the first c terms, and the rest

pub harmonic_split : (c d k : ℕ) → harmonic (c + d) k ≈q harmonic c k +q harmonic d (k + c)
unfolding harmonic
harmonic_split zero d k = rw (zero-add, add-zero) (≈q_sym (zero_q_add (harmonic d k)))
harmonic_split (suc c) d k =
    rw (suc-add c d, add-suc k c, ← suc-add k c)
    (≈q_trans (add_cong (≈q_refl _) (harmonic_split c d (suc k))) (≈q_sym (add_assoc _ _ _)))

-- ---- not below zero, and more for more terms

pub harmonic_least : (c k : ℕ) → 1 ≤ k → zero_q ≤q harmonic c k
unfolding harmonic up down
harmonic_least zero k h = ≤q_refl _
harmonic_least (suc c) k h =
    ≤q_trans (le_of zero-Is (over-Is (pos 1) k h) (omega arith)) (add_more _ (harmonic_least c (suc k) (omega arith)))

pub harmonic_more : (c d k : ℕ) → 1 ≤ k → harmonic c k ≤q harmonic (c + d) k
harmonic_more c d k h = ≤q_trans (add_more _ (harmonic_least d (k + c) (omega arith))) (≈q_≥q (harmonic_split c d k))

-- c terms, none of them above the first
pub harmonic_most : (c k : ℕ) → 1 ≤ k → harmonic c k ≤q pos c over k
unfolding harmonic up down
harmonic_most zero k h = le_of zero-Is (over-Is (pos 0) k h) (omega arith)
harmonic_most (suc c) k h =
    ≤q_trans
    (add_mono (≤q_refl _) (≤q_trans (harmonic_most c (suc k) (omega arith)) (over-≤ c c (omega arith) h (omega arith))))
    (≤q_trans (≈q-≤q (over_add 1 c h)) (over-≤ (1 + c) (suc c) h h (omega arith)))

-- ---- compared with weights w k / D, term by term

abbrev pub weights : (ℕ → ℕ) → ℕ → ℕ → ℕ
weights w zero k = 0
weights w (suc c) k = w k + weights w c (suc k)

module _ (w : ℕ → ℕ) {D : ℕ} (h_d : 1 ≤ D) where
  pub weights_below : (c k : ℕ) → 1 ≤ k → ((j : ℕ) → k ≤ j → j < k + c → w j * j ≤ D) →
      pos (weights w c k) over D ≤q harmonic c k
  unfolding harmonic up down
  weights_below zero k hk h = le_of (over-Is (pos 0) D h_d) zero-Is (omega arith)
  weights_below (suc c) k hk h =
      ≤q_trans (≈q_≥q (over_add (w k) (weights w c (suc k)) h_d))
      (add_mono (over-≤ _ _ h_d hk (omega (arith, h k (le_refl k) (omega arith))))
      (weights_below c (suc k) (omega arith) (λ j p q. h j (omega arith) (omega arith))))

  pub weights_above : (c k : ℕ) → 1 ≤ k → ((j : ℕ) → k ≤ j → j < k + c → D ≤ w j * j) →
      harmonic c k ≤q pos (weights w c k) over D
  unfolding harmonic up down
  weights_above zero k hk h = le_of zero-Is (over-Is (pos 0) D h_d) (omega arith)
  weights_above (suc c) k hk h =
      ≤q_trans (add_mono (over-≤ _ _ hk h_d (omega (arith, h k (le_refl k) (omega arith))))
      (weights_above c (suc k) (omega arith) (λ j p q. h j (omega arith) (omega arith))))
      (≈q-≤q (over_add (w k) (weights w c (suc k)) h_d))

weights_one : (c k : ℕ) → weights (λ (j : ℕ). 1) c k ≡ c
weights_one zero k = refl
weights_one (suc c) k = omega (arith, weights_one c (suc k))

-- c terms, none of them below 1/D
pub harmonic_last : (c k : ℕ) {D : ℕ} → 1 ≤ D → 1 ≤ k → k + c ≤ suc D → pos c over D ≤q harmonic c k
harmonic_last c k {D} h_d hk h =
    rw (weights_one c k) at (weights_below (λ (j : ℕ). 1) h_d c k hk (λ j p q. omega arith))

-- the weights r (s − k)
pub weights_down : (r s c k : ℕ) → k + c ≤ suc s →
    2 * weights (λ (j : ℕ). r * (s - j)) c k + r * (2 * (c * k) + c * c) ≡ r * (2 * (c * s) + c)
weights_down r s zero k h = omega arith
weights_down r s (suc c) k h =
    let e = ap (λ (z : ℕ). r * z) (sub-add_cancel {n = s} {m = k} (omega arith)) in
    omega (arith, weights_down r s c (suc k) (omega arith))

-- ---- r terms in the place of each: the upper sum falls, and the lower sum rises

more : (c r : ℕ) → suc c * r ≡ r + c * r
more c r = omega arith

-- r terms from k r on are at most r/(k r), and r terms up to k r at least
terms_below : (r k : ℕ) → 1 ≤ r → 1 ≤ k → harmonic r (k * r) ≤q pos 1 over k
terms_below r k hr hk =
    let n : 1 ≤ k * r = one-le-mul hk hr in
    ≤q_trans (harmonic_most r (k * r) n) (over-≤ r 1 n hk (omega arith))

terms_above : (r k : ℕ) → 1 ≤ r → pos 1 over suc k ≤q harmonic r (suc (k * r))
terms_above r k hr =
    let n : 1 ≤ suc k * r = one-le-mul {a = suc k} (omega arith) hr in
    ≤q_trans (over-≤ 1 r (omega arith) n (omega arith)) (harmonic_last r (suc (k * r)) n (omega arith) (omega arith))

pub finer_upper : (r c k : ℕ) → 1 ≤ r → 1 ≤ k → harmonic (c * r) (k * r) ≤q harmonic c k
unfolding harmonic
finer_upper r zero k hr hk = rw zero-mul (≤q_refl _)
finer_upper r (suc c) k hr hk =
    let next : k * r + r ≡ suc k * r = omega arith in
    rw (more c r) (≤q_trans (≈q-≤q (harmonic_split r (c * r) (k * r)))
    (add_mono (terms_below r k hr hk) (rw next (finer_upper r c (suc k) hr (omega arith)))))

pub finer_lower : (r c k : ℕ) → 1 ≤ r → harmonic c (suc k) ≤q harmonic (c * r) (suc (k * r))
unfolding harmonic
finer_lower r zero k hr = rw zero-mul (≤q_refl _)
finer_lower r (suc c) k hr =
    let next : suc (k * r) + r ≡ suc (suc k * r) = omega arith in
    rw (more c r) (≤q_trans (add_mono (terms_above r k hr) (rw next (finer_lower r c (suc k) hr)))
    (≈q_≥q (harmonic_split r (c * r) (suc (k * r)))))
