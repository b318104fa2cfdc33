-- The midpoint value is at most the logarithm of p/q, and the trapezoid value at least, at every fineness.
use mathlib.Core.Path.{◌≡◌, ap}
use Prim.Native.Nat.{ℕ, suc, ◌+◌, ◌*◌, ◌-◌, ◌≤◌, ◌<◌}
use native.Mathlib.Nat.{mul-le-mul_left, mul-le-mul_right, one-le-mul, sub-add_cancel}
use native.Mathlib.Numerals.{one-add}
use native.Mathlib.Decide.{dec_le}
use native.Mathlib.Omega.{arith}
use lib.IntN.{pos}
use Rattle.exact_theory.specs.Fraction.{◌over◌, ◌≤q◌}
use Rattle.exact_theory.specs.Logarithm.{harmonic, lower_sum, upper_sum}
use Rattle.exact_theory.proofs.FractionLaws.{≤q_trans}
use Rattle.exact_theory.proofs.Harmonic.{over-≤, weights, weights_below, weights_above, weights_down}
use Rattle.exact_theory.proofs.LogarithmLaws.{Bounds, bounds_less, bounds_times}

-- (d − j)² is not below zero
pub square : (d j : ℕ) → 4 * d * j ≤ (d + j) * (d + j)
square d j =
    elim (dec_le d j) [ yes h ↦ less d (j - d) j (omega arith) | no h ↦ omega (arith, less j (d - j) d (omega arith)) ]
  where
    less : (d x j : ℕ) → d + x ≡ j → 4 * d * j ≤ (d + j) * (d + j)
    less d x j e = rw (← e) (omega arith)

-- ---- p is e + q, and s the sum of p n and q n

abbrev sum : ℕ → ℕ → ℕ → ℕ
sum e q n = (e + q + q) * n

-- 1/j lies above the tangent of 1/x in the middle of q n and p n, and below their chord
module _ (e q n : ℕ) where
  tangent : (j : ℕ) → j < q * n + e * n → 4 * (sum e q n - j) * j ≤ sum e q n * sum e q n
  tangent j h = let g : j ≤ sum e q n = omega arith in rw (sub-add_cancel g) at (square (sum e q n - j) j)

  chord : (j : ℕ) → suc (q * n) ≤ j → j < suc (q * n) + e * n → (e + q) * n * (q * n) ≤ 1 * (sum e q n - j) * j
  chord j g h = go (j - q * n) (q * n + e * n - j) (sum e q n - j) (omega arith) (omega arith) (omega arith)
    where
      go : (x y d : ℕ) → x + q * n ≡ j → y + x ≡ e * n → d ≡ y + q * n → (e + q) * n * (q * n) ≤ 1 * d * j
      go x y d ex ey ed = rw (ed, ← ex) (omega (arith, ap (λ (z : ℕ). z * (q * n)) ey))

twice_some : (e : ℕ) {q : ℕ} → 1 ≤ q → 1 ≤ 2 * ((e + q) * q)
twice_some e {q} h = omega (arith, one-le-mul {a = e + q} (omega arith) h)

-- r (s − j), added up over the terms from k on
abbrev slope : ℕ → ℕ → ℕ → ℕ → ℕ → ℕ
slope r e q n k = weights (λ (j : ℕ). r * (sum e q n - j)) (e * n) k

module _ (e q n : ℕ) (hq : 1 ≤ q) (hn : 1 ≤ n) where
  mid_at : pos (2 * e) over (e + q + q) ≤q harmonic (e * n) (q * n)
  mid_at =
      let s : 1 ≤ sum e q n = one-le-mul {a = e + q + q} (omega arith) hn in
      let S : 1 ≤ sum e q n * sum e q n = one-le-mul s s in
      let w = ap (λ (z : ℕ). z * (e + q + q)) (weights_down 4 (sum e q n) (e * n) (q * n) (omega arith)) in
      ≤q_trans (over-≤ (2 * e) (slope 4 e q n (q * n)) (omega arith) S (omega arith))
      (weights_below (λ (j : ℕ). 4 * (sum e q n - j)) S (e * n) (q * n) (one-le-mul hq hn) (λ j p h. tangent e q n j h))

  trap_at : harmonic (e * n) (suc (q * n)) ≤q pos (e * (e + q + q)) over (2 * ((e + q) * q))
  trap_at =
      let D : 1 ≤ (e + q) * n * (q * n) = one-le-mul (one-le-mul {a = e + q} (omega arith) hn) (one-le-mul hq hn) in
      let w = ap (λ (z : ℕ). z * ((e + q) * q)) (weights_down 1 (sum e q n) (e * n) (suc (q * n)) (omega arith)) in
      ≤q_trans (weights_above (λ (j : ℕ). 1 * (sum e q n - j)) D (e * n) (suc (q * n)) (omega arith) (chord e q n))
      (over-≤ (slope 1 e q n (suc (q * n))) (e * (e + q + q)) D (twice_some e hq) (omega arith))

-- ---- bounds over S

terms : (e q n : ℕ) → (e + q) * n - q * n ≡ e * n
terms e q n = omega arith

-- from the midpoint value, 2 e / (p + q), and the trapezoid value, e (p + q) / (2 p q)
pub areas : (S x y e q : ℕ) → 1 ≤ S → 1 ≤ q → x * (e + q + q) ≤ 2 * e * S →
    e * (e + q + q) * S ≤ y * (2 * ((e + q) * q)) →
    Bounds S x y (e + q) q
unfolding upper_sum lower_sum
areas S x y e q h_s hq l h = record {
  lower = λ n g. ≤q_trans (over-≤ x (2 * e) h_s (omega arith) l) (rw (terms e q n) (mid_at e q n hq g));
  upper = λ n g. ≤q_trans (rw (terms e q n) (trap_at e q n hq g)) (over-≤ (e * (e + q + q)) y (twice_some e hq) h_s h);
}

-- what is rounded down to q, in units of r, has a logarithm at most 1/q above that of q
pub bounds_rounded : (S z r q a : ℕ) → 1 ≤ S → 1 ≤ r → 1 ≤ q → S ≤ z * q → r * q ≤ a → a ≤ r * suc q →
    Bounds S 0 z a (r * q)
bounds_rounded S z r q a h_s hr hq g l h =
    let more = mul-le-mul_right (1 + q + q) g in
    let one = areas S 0 z 1 q h_s hq (omega arith) (omega (arith, mul-le-mul_left z hq)) in
    bounds_less h_s (one-le-mul hr hq) l h (bounds_times r hr (rw one-add at one))
