-- The nonlinear part is bnl times −ln(0.1/0.06) + θ, and θ lies where the evaluation has it, in whichever branch.
use Rattle.std.specs.Prelude.{ℕ}
use mathlib.Core.Path.{◌≡◌, refl}
use mathlib.Core.Bool.{Bool, true, false, cond}
use Prim.Native.Nat.{ℕ, ◌-◌, ◌≤◌, ◌<◌, min, max}
use native.Mathlib.Decide.{dec_le}
use native.Mathlib.Omega.{arith}
use borrow.Author.Tests.{le-leb, lt-ltb}
use lib.Dec.{leb, ltb}
use lib.IntN.{sub_ℕ}
use Rattle.exact_theory.specs.Fraction.{Fraction, le_q, ◌≤q◌, ◌<q◌, ◌≈q◌, zero_q, ◌+q◌, neg_q, ◌-q◌, ◌*q◌, ◌/q◌}
use Rattle.exact_theory.specs.Formula.{Formula, units}
use Rattle.exact_theory.proofs.FractionLaws.{is_self, zero-Is, add-Is, neg-Is, le_as, le_of, lt_as, ≤q_trans, <q-≤q}
use Rattle.exact_theory.proofs.FractionLaws.{≤q-<q_trans, <q-≤q_trans, ≈q_sym}
use Rattle.exact_theory.proofs.AlgebraLaws.{≈q_trans, add_cong, mul_cong_left, mul_cong_right, mul_assoc, mul_add}
use Rattle.exact_theory.proofs.AlgebraLaws.{mul_swap, mul_sub, neg_swap, neg_twice, add_zero, add_cancel, ≈q_refl}
use Rattle.exact_theory.proofs.Points.{Points, value}
use Rattle.exact_theory.proofs.UnitLaws.{Lies, units-Is, lies_negated, lies_same, lies_wider, lies_stated, lies_sum}
use Rattle.exact_theory.proofs.UnitLaws.{lies_difference}
use Rattle.interval_theory.specs.declared.Ends.{Ends}
use Rattle.interval_theory.specs.declared.SignedPair.{SignedPair}
use Rattle.interval_theory.specs.Natural.{product_of, hull_of, exactly}
use Rattle.interval_theory.proofs.NaturalValues.{Held, HeldBelow, product_held, sum_held, hull_left, hull_right}
use Rattle.interval_theory.proofs.SignedValues.{LiesIn}
use Rattle.logarithm_theory.proofs.Enclosure.{Known}
use Rattle.boore_atkinson_theory.specs.SiteTerm.{Δx, Δy, c, d, low_part, transition, high_part, nonlinear_part}
use Rattle.boore_atkinson_theory.specs.Constants.{minus_ln_low, minus_ln_a1, minus_ln_a2}
use Rattle.boore_atkinson_theory.specs.Evaluation.{z_of, cubic_of, straight_of, branch_of, curve_of}
use Rattle.boore_atkinson_theory.proofs.Constants.{low_held, first_below, second_below, ten_below, c_held}
use Rattle.boore_atkinson_theory.proofs.Constants.{d_held}

-- ---- which branches are reached

-- −x lies in b and −y in t: where x is up to y, b reaches up to t; and where x is above y, b reaches below t
reaches : {x y : Fraction} {b t : Ends ℕ} → HeldBelow x b → HeldBelow y t → x ≤q y → t.low ≤ b.high
reaches {b = b} {t} h k le =
    omega (arith, le_as (units-Is 0 b.high) (units-Is 0 t.low) (≤q_trans h.from (≤q_trans le k.to)))

passes : {x y : Fraction} {b t : Ends ℕ} → HeldBelow x b → HeldBelow y t → y <q x → b.low < t.high
passes {b = b} {t} h k lt =
    omega (arith, lt_as (units-Is 0 t.high) (units-Is 0 b.low) (≤q-<q_trans k.from (<q-≤q_trans lt h.to)))

module _ (b t : Ends ℕ) {θ : Fraction} (A B : Ends ℕ) where
  branch_from : t.low ≤ b.high → Held θ A → Held θ (branch_of b t A B)
  unfolding branch_of
  branch_from h k =
      rw (le-leb t.low b.high h)
      (elim (ltb b.low t.high) as (λ c. Held θ (cond c (hull_of A B) A)) [ true ↦ hull_left B k | false ↦ k ])

  branch_below : b.low < t.high → Held θ B → Held θ (branch_of b t A B)
  unfolding branch_of
  branch_below h k =
      rw (lt-ltb b.low t.high h)
      (elim (leb t.low b.high) as (λ c. Held θ (cond c (hull_of A B) B)) [ true ↦ hull_right A k | false ↦ k ])

-- ---- what is not below zero

pub not_below : {z : Fraction} {lu ld hu hd : ℕ} → Lies z lu ld hu hd → zero_q ≤q z → Held z
    (record { low = lu - ld; high = hu - hd })
not_below {z} {lu} {ld} {hu} {hd} h some =
    let order = le_as zero-Is (units-Is hu hd) (≤q_trans some h.to) in
    record {
      from = elim (dec_le ld lu) [
        | yes g ↦ ≤q_trans (le_of (units-Is (lu - ld) 0) (units-Is lu ld) (omega arith)) h.from
        | no g ↦ ≤q_trans (le_of (units-Is (lu - ld) 0) zero-Is (omega arith)) some
      ];
      to = ≤q_trans h.to (le_of (units-Is hu hd) (units-Is (hu - hd) 0) (omega arith));
    }

-- x − y where y is below x
above_zero : {x y : Fraction} → y <q x → zero_q ≤q x -q y
unfolding ◌-q◌
above_zero {x} {y} h =
    le_of zero-Is (add-Is (is_self x) (neg-Is (is_self y))) (omega (arith, lt_as (is_self y) (is_self x) h))

-- the greater of two numbers is one of them, and so is the lesser
extremes : (Q : ℕ → Type 0) (m n : ℕ) → Q m → Q n → Q (max m n) × Q (min m n)
extremes Q m n p q = elim (dec_le m n) [
  | yes g ↦ let e : (max m n ≡ n) × (min m n ≡ m) = omega arith in rw (e.0, e.1) (q, p)
  | no g ↦ let e : (max m n ≡ m) × (min m n ≡ n) = omega arith in rw (e.0, e.1) (p, q)
]

-- ---- θ in each branch

module _ {σ : Points} (known : Known σ) {P : Fraction} {b : Ends ℕ} (h : HeldBelow P b) where
  -- above ln 0.03 and up to ln 0.09
  z_held : σ.ln_at 3 100 <q P → P ≤q σ.ln_at 9 100 → Held (P -q σ.ln_at 3 100) (z_of b)
  unfolding z_of
  z_held lt le =
      let t = second_below known in
      let to = (extremes (λ k. P ≤q units (sub_ℕ 0 k)) b.low minus_ln_a2.low h.to (≤q_trans le t.to)).0 in
      let p : Lies P 0 b.high 0 (max b.low minus_ln_a2.low) = record { from = h.from; to = to } in
      not_below (lies_wider (lies_difference p (first_below known)) minus_ln_a1.low b.high minus_ln_a1.high
      (max b.low minus_ln_a2.low) (omega arith) (omega arith)) (above_zero lt)

  -- above ln 0.09
  straight_held : σ.ln_at 9 100 <q P → Held (σ.ln_at 10 6 +q (P -q σ.ln_at 1 10)) (straight_of b)
  unfolding straight_of
  straight_held lt =
      let t = second_below known in
      let from = ≤q_trans t.from (<q-≤q lt) in
      let from = (extremes (λ k. units (sub_ℕ 0 k) ≤q P) b.high minus_ln_a2.high h.from from).1 in
      let p : Lies P 0 (min b.high minus_ln_a2.high) 0 b.low = record { from = from; to = h.to } in
      let o = passes h t lt in
      lies_wider (lies_sum (low_held known) (lies_difference p (ten_below known))) _ 0 _ 0 (omega arith) (omega arith)

-- ---- the nonlinear part is β (−κ + θ)

-- n (k + θ) for θ between q's ends: β below zero, −β between n's ends
product_lies : {β κ θ : Fraction} {n k q : Ends ℕ} → HeldBelow β n → Held κ k → Held θ q →
    LiesIn (β *q (neg_q κ +q θ)) (record { gain = product_of n k; loss = product_of n q })
product_lies {β} {κ} {θ} h low curve =
    let ν = lies_negated h in
    lies_same (≈q_sym (mul_add β (neg_q κ) θ)) (lies_wider
    (lies_sum (lies_same (≈q_sym (neg_swap β κ)) (product_held ν low))
    (lies_same (neg_twice β θ) (lies_negated (product_held ν curve)))) _ _ _ _ (omega arith) (omega arith))

-- c and d are β times what they are over the slope
module _ (β w x r : Fraction) where
  c_over : (s : Fraction) → (s *q (β *q w) -q β *q x) *q r ≈q β *q ((s *q w -q x) *q r)
  c_over s = ≈q_trans (mul_cong_left r (mul_sub β w x s)) (mul_assoc β (s *q w -q x) r)

  d_over_lem : (s t : Fraction) → t *q (s *q (β *q w) -q β *q x) *q r ≈q β *q (t *q (s *q w -q x) *q r)
  d_over_lem s t =
      ≈q_trans (mul_cong_left r (≈q_trans (mul_cong_right t (mul_sub β w x s)) (mul_swap t β (s *q w -q x))))
      (mul_assoc β (t *q (s *q w -q x)) r)

-- β a + (c u + d v), c and d being β c' and β d', is β (a + (c' u + d' v))
gathered : {c d : Fraction} (β a c' d' u v : Fraction) → c ≈q β *q c' → d ≈q β *q d' →
    β *q a +q (c *q u +q d *q v) ≈q β *q (a +q (c' *q u +q d' *q v))
gathered β a c' d' u v ec ed =
    let cu = ≈q_trans (mul_cong_left u ec) (mul_assoc β c' u) in
    let dv = ≈q_trans (mul_cong_left v ed) (mul_assoc β d' v) in
    ≈q_trans (add_cong (≈q_refl (β *q a)) (≈q_trans (add_cong cu dv) (mul_add β (c' *q u) (d' *q v))))
    (mul_add β a (c' *q u +q d' *q v))

module _ {σ : Points} (known : Known σ) (slope p : Formula) {n b : Ends ℕ} (h : HeldBelow (value σ slope) n)
    (k : HeldBelow (value σ p) b) where
  abbrev β : Fraction
  β = value σ slope

  abbrev P : Fraction
  P = value σ p

  -- the evaluation, by θ's ends
  abbrev own : Ends ℕ → SignedPair
  own q = record { gain = product_of n minus_ln_low; loss = product_of n q }

  low_same : value σ (low_part slope) ≈q β *q neg_q (σ.ln_at 10 6)
  unfolding value low_part
  low_same = rw (known.ln_negated {a = 6} {b = 10} (omega arith)) (≈q_refl _)

  -- up to ln 0.03: θ is 0
  low_lies : P ≤q σ.ln_at 3 100 → LiesIn (value σ (low_part slope)) (own (curve_of b))
  unfolding curve_of
  low_lies le =
      lies_same (≈q_trans low_same (mul_cong_right β (add_zero (neg_q (σ.ln_at 10 6)))))
      (product_lies h (low_held known) (branch_from b minus_ln_a1 (exactly 0) _ (reaches k (first_below known) le)
      (lies_stated zero-Is 0 0 (omega arith))))

  -- up to ln 0.09
  transition_lies : σ.ln_at 3 100 <q P → P ≤q σ.ln_at 9 100 → LiesIn (value σ (transition slope p)) (own (curve_of b))
  unfolding value transition c d Δx Δy ◌/q◌ cubic_of curve_of
  transition_lies lt le =
      let z = z_held known k lt le in
      let square = product_held z z in
      lies_same (≈q_trans (add_cong low_same (≈q_refl _))
      (gathered _ _ _ _ _ _ (c_over _ _ _ _ _) (d_over_lem _ _ _ _ _ _))) (product_lies h (low_held known)
      (branch_below b minus_ln_a1 (exactly 0) _ (passes k (first_below known) lt)
      (branch_from b minus_ln_a2 _ (straight_of b) (reaches k (second_below known) le)
      (sum_held (product_held (c_held known) square) (product_held (d_held known) (product_held square z))))))

  -- above
  high_lies : σ.ln_at 3 100 <q P → σ.ln_at 9 100 <q P → LiesIn (value σ (high_part slope p)) (own (curve_of b))
  unfolding value high_part curve_of
  high_lies lt beyond =
      lies_same (mul_cong_right β (add_cancel (σ.ln_at 10 6) (P -q σ.ln_at 1 10))) (product_lies h (low_held known)
      (branch_below b minus_ln_a1 (exactly 0) _ (passes k (first_below known) lt)
      (branch_below b minus_ln_a2 (cubic_of (z_of b)) _ (passes k (second_below known) beyond)
      (straight_held known k beyond))))

  pub nonlinear_lies : LiesIn (value σ (nonlinear_part slope p)) (own (curve_of b))
  unfolding value nonlinear_part
  nonlinear_lies = go (le_q P (σ.ln_at 3 100)) (le_q P (σ.ln_at 9 100)) refl refl
    where
      go : (i j : Bool) → le_q P (σ.ln_at 3 100) ≡ i → le_q P (σ.ln_at 9 100) ≡ j →
          LiesIn (value σ (nonlinear_part slope p)) (own (curve_of b))
      go true j ei ej = rw ei (low_lies record { le = rw ei tt })
      go false true ei ej = rw (ei, ej) (transition_lies record { lt = rw ei tt } record { le = rw ej tt })
      go false false ei ej = rw (ei, ej) (high_lies record { lt = rw ei tt } record { lt = rw ej tt })
