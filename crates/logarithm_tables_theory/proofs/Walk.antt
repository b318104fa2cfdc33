-- A table's logarithms, from sums of midpoint and trapezoid values down the whole numbers: one test that antt computes
-- over the whole table.
use mathlib.Core.Path.{◌≡◌}
use mathlib.Core.Bool.{Bool, true, ◌&&◌}
use mathlib.Core.List.{List, [], ◌∷◌}
use Prim.Native.Nat.{ℕ, zero, suc, ◌+◌, ◌*◌, ◌-◌, ◌/◌, ◌≤◌, ◌<◌}
use native.Mathlib.Nat.{div-mul-le_self, lt-div-mul-add, not-suc-le-zero, le_of_suc-le-suc}
use native.Mathlib.Nat.{le_of_mul-le-mul_left, add-zero, add-suc}
use native.Mathlib.Numerals.{one-add}
use native.Mathlib.Omega.{arith}
use lib.Dec.{T, leb, eqb, leb→le, eqb→eq}
use lib.ListN.{length, get_or}
use Rattle.toolbox_theory.proofs.Tests.{and_left, and_right, both, each}
use Rattle.exact_theory.proofs.LogarithmLaws.{Bounds, bounds_wider, bounds_same, bounds_plus, bounds_over}
use Rattle.logarithm_tables_theory.specs.declared.Factor.{Factor}
use Rattle.logarithm_tables_theory.proofs.Areas.{areas}

-- the tables' unit is 1/U, that of the sums 1/S
abbrev pub U : ℕ
U = 4_096_000_000_000

abbrev S : ℕ
S = 4_096_000_000_000_000_000

-- ---- one step, from q to q + 1

abbrev low_step : ℕ → ℕ
low_step q = 2 * S / (q + q + 1)

abbrev high_step : ℕ → ℕ
high_step q = S * (q + q + 1) / (2 * (suc q * q)) + 1

step : (q : ℕ) → 1 ≤ q → Bounds S (low_step q) (high_step q) (suc q) q
step q hq =
    let low = div-mul-le_self (2 * S) (q + q + 1) in
    let high = lt-div-mul-add {a = S * (q + q + 1)} {b = 2 * (suc q * q)} (omega arith) in
    rw one-add at (areas S (low_step q) (high_step q) 1 q (omega arith) hq (omega arith) (omega arith))

-- ---- c steps, from q + c down to q, added to x

abbrev steps : (ℕ → ℕ) → ℕ → ℕ → ℕ → ℕ
steps f zero q x = x
steps f (suc c) q x = steps f c q (x + f (q + c))

steps_down : {N q : ℕ} → 1 ≤ q → (c : ℕ) {x y : ℕ} → q + c ≤ N → Bounds S x y N (q + c) →
    Bounds S (steps low_step c q x) (steps high_step c q y) N q
steps_down hq zero h p = rw add-zero at p
steps_down {q = q} hq (suc c) h p =
    let s = step (q + c) (omega arith) in
    steps_down hq c (omega arith) (bounds_plus S (omega arith) (omega arith) (omega arith) (rw (add-suc q c) at p) s)

-- ---- the table

-- an entry's logarithm is ln(top/by), to δ units of 1/U
abbrev pub Entry : ℕ → ℕ → Factor → Type 0
Entry top δ w = Bounds U w.logarithm (w.logarithm + δ) top w.by

-- by the sums x and y at q = c by, that go from c top down
module _ (c top δ : ℕ) where
  abbrev fits : Factor → ℕ → ℕ → ℕ → Bool
  fits w q x y = eqb q (c * w.by) && (leb (w.logarithm * 1_000_000) x && leb y ((w.logarithm + δ) * 1_000_000))

  abbrev ahead : Factor → ℕ → Bool
  ahead w q = leb 1 (c * w.by) && leb (c * w.by) q

  abbrev pub walks : List Factor → ℕ → ℕ → ℕ → Bool
  walks [] q x y = true
  walks (w ∷ []) q x y = fits w q x y
  walks (w ∷ v ∷ ws) q x y =
      let p : ℕ = c * v.by in
      fits w q x y && (ahead v q && walks (v ∷ ws) p (steps low_step (q - p) p x) (steps high_step (q - p) p y))

  -- the sums x and y bound ln(c top / q)
  record Reached (q x y : ℕ) : Type 0 where
    some : 1 ≤ q
    below : q ≤ c * top
    bounds : Bounds S x y (c * top) q

  next : {q x y : ℕ} (p : ℕ) → 1 ≤ p → p ≤ q → Reached q x y →
      Reached p (steps low_step (q - p) p x) (steps high_step (q - p) p y)
  next {q} p h g r =
      let e : p + (q - p) ≡ q = omega arith in
      record { some = h; below = omega arith; bounds = steps_down h (q - p) (rw e r.below) (rw e r.bounds) }

  module _ (hc : 1 ≤ c) where
    entry : {q x y : ℕ} (w : Factor) → Reached q x y → T (fits w q x y) → Entry top δ w
    entry {q} {x} {y} w r t =
        let e : q ≡ c * w.by = search (and_left, eqb→eq) in
        let fit : (w.logarithm * 1_000_000 ≤ x) × (y ≤ (w.logarithm + δ) * 1_000_000) =
        search (and_left, and_right, leb→le) in
        bounds_over c hc (some w.by (rw e at r.some)) (le_of_mul-le-mul_left {k = c} (rw e at r.below) hc)
        (bounds_wider U w.logarithm (w.logarithm + δ) (omega arith) (omega arith) (omega arith) (omega arith)
        (rw e at r.bounds))
      where
        some : (b : ℕ) → 1 ≤ c * b → 1 ≤ b
        some zero h = absurd (omega arith)
        some (suc b) h = omega arith

    entries : (ws : List Factor) {q x y : ℕ} → Reached q x y → T (walks ws q x y) → (d : Factor) (k : ℕ) →
        k < length ws → Entry top δ (get_or ws k d)
    entries [] r t d k h = absurd (not-suc-le-zero h)
    entries (w ∷ []) r t d zero h = entry w r t
    entries (w ∷ []) r t d (suc k) h = absurd (not-suc-le-zero (le_of_suc-le-suc h))
    entries (w ∷ v ∷ ws) {q} {x} {y} r t d zero h = entry w r (and_left (fits w q x y) _ t)
    entries (w ∷ v ∷ ws) {q} {x} {y} r t d (suc k) h =
        let more = both (ahead v q) _ (and_right (fits w q x y) _ t) in
        let near = each (leb 1 (c * v.by)) _ (leb→le 1 (c * v.by)) (leb→le (c * v.by) q) more.0 in
        entries (v ∷ ws) (next (c * v.by) near.0 near.1 r) more.1 d k (le_of_suc-le-suc h)

    pub table_entry : (ws : List Factor) → 1 ≤ c * top → T (walks ws (c * top) 0 0) → (d : Factor) (k : ℕ) →
        k < length ws → Entry top δ (get_or ws k d)
    table_entry ws h t = entries ws (record { some = h; below = omega arith; bounds = bounds_same h (omega arith) }) t
