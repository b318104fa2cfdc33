-- The motion on rock lies where the evaluation has it.
use mathlib.Core.Path.{◌≡◌, refl}
use mathlib.Core.Bool.{Bool, true, false, cond}
use Prim.Native.Nat.{ℕ, suc, ◌+◌, ◌*◌, ◌-◌, ◌≤◌, ◌<◌}
use native.Mathlib.Omega.{arith}
use borrow.Author.Tests.{leb-true, leb-false, le-leb, lt-leb}
use lib.Dec.{eqb, leb}
use lib.IntN.{pos}
use Rattle.toolbox_theory.specs.Whole.{up, down}
use Rattle.exact_theory.specs.Fraction.{Fraction, ◌over◌, le_q, ◌-q◌, ◌*q◌, ◌/q◌, flip, recip_q}
use Rattle.exact_theory.specs.Pair.{◌∈◌}
use Rattle.exact_theory.specs.Formula.{ln, ln_q}
use Rattle.exact_theory.specs.Root.{root_values}
use Rattle.exact_theory.proofs.FractionLaws.{Is, over-Is, num-Is, num_above, num_below, is_natural, add-Is, mul-Is}
use Rattle.exact_theory.proofs.FractionLaws.{neg-Is, le_of, le_as, lt_as, upward, mul_between_right, between_low}
use Rattle.exact_theory.proofs.FractionLaws.{between_high, ≈q_sym}
use Rattle.exact_theory.proofs.AlgebraLaws.{mul_assoc, mul_add, written}
use Rattle.exact_theory.proofs.Points.{Points, value, ln_q_is}
use Rattle.exact_theory.proofs.UnitLaws.{Lies, units-Is, lies_natural, lies_same, lies_wider, lies_stated, lies_sum}
use Rattle.interval_theory.specs.Natural.{multiple_of, sum_of}
use Rattle.interval_theory.proofs.NaturalValues.{Held, HeldBelow, minus_held}
use Rattle.interval_theory.proofs.SignedValues.{LiesIn}
use Rattle.logarithm_theory.specs.Promise.{root_fineness}
use Rattle.logarithm_theory.specs.Evaluation.{ln_of, root_of}
use Rattle.logarithm_theory.proofs.Enclosure.{Known}
use Rattle.scenario_theory.specs.Rows.{row_count}
use Rattle.boore_atkinson_theory.specs.declared.Exact.{Exact}
use Rattle.boore_atkinson_theory.specs.Tables.{DistanceScaling, Mref, Rref, MagnitudeScaling}
use Rattle.boore_atkinson_theory.specs.Rock.{sum_of_squares, R, ln_r_over_rref, geometric_spreading, distance_term, e}
use Rattle.boore_atkinson_theory.specs.Rock.{magnitude_term, on_rock}
use Rattle.boore_atkinson_theory.specs.Rows.{row_at, distance_parts, magnitude_parts, DistanceSigns, MagnitudeSigns}
use Rattle.boore_atkinson_theory.proofs.Rows.{distance_limits_lem, magnitude_limits_lem}
use Rattle.boore_atkinson_theory.specs.Evaluation.{km_of, effective_of, spread_of, fall_of, level_of, magnitude_of}
use Rattle.boore_atkinson_theory.specs.Evaluation.{rock_of}
use Rattle.boore_atkinson_theory.proofs.RockSizes.{spread_bounds, squares, effective_domain}

-- ---- R

-- w lies from k to k + 1 over the root's fineness, and R is w over 100
km_held : {w : Fraction} (k : ℕ) → w ∈ root_values root_fineness k → Held (pos 1 over 100 *q w) (km_of k)
unfolding km_of root_values up down
km_held k h =
    let hundredth = over-Is (pos 1) 100 (omega arith) in
    let low = mul-Is hundredth (over-Is (pos k) root_fineness (omega arith)) in
    let high = mul-Is hundredth (over-Is (pos (suc k)) root_fineness (omega arith)) in
    let m = mul_between_right (pos 1 over 100) (upward h.from h.to) in
    let from = units-Is (km_of k).low 0 in
    let to = units-Is (km_of k).high 0 in
    record {
      from = between_low m (le_of from low (omega arith)) (le_of from high (omega arith));
      to = between_high m (le_of low to (omega arith)) (le_of high to (omega arith));
    }

-- M
abbrev M : ℕ → Fraction
M m = pos m over 100

M-Is : (m : ℕ) → Is (M m) m 0 100
unfolding up down
M-Is m = over-Is (pos m) 100 (omega arith)

-- ---- the distance term

away-Is : {m : ℕ} → 500 ≤ m → Is (M m -q Mref) (10 * (m - 450)) 0 1_000
unfolding ◌-q◌ up down
away-Is {m} low =
    is_natural (10 * (m - 450)) (add-Is (M-Is m) (neg-Is (over-Is (pos 45) 10 (omega arith)))) (omega arith)

-- ln(R/Rref) by a and b
pub distance_ln : (X : ℕ) → ln_q (pos X over 10_000 /q (Rref *q Rref)) ≡ ln X 10_000
unfolding ◌/q◌ ◌*q◌ recip_q flip ◌over◌ up down
distance_ln X =
    let whole : Is (pos 1 over 1) 1 0 1 = over-Is (pos 1) 1 (omega arith) in
    ln_q_is (written (mul-Is (over-Is (pos X) 10_000 (omega arith)) whole) (omega arith) (omega arith) (omega arith))

module _ (r : DistanceScaling) (l : DistanceSigns r) {m : ℕ} (least : 500 ≤ m) (most : m ≤ 800) where
  abbrev spread : ℕ
  spread = spread_of (distance_parts r) m

  -- c1 + c2 (M − Mref), halved
  spread-Is : Is (geometric_spreading r (M m) *q pos 1 over 2) 0 (1_000_000 * spread) 20_000_000_000_000
  unfolding geometric_spreading spread_of up down
  spread-Is =
      let b = spread_bounds l.sizes most in
      let i =
      mul-Is (add-Is (num_below r.c1 l.c1_decimals l.c1_below)
      (mul-Is (num-Is r.c2 l.c2_decimals) (away-Is least))) (over-Is (pos 1) 2 (omega arith)) in
      omega (arith, i, b.order)

  -- (c1 + c2 (M − Mref)) ln R, c3 R, and −c3 Rref
  distance_lies : {σ : Points} → Known σ → {d : ℕ} → d ≤ 19_999 →
      let f = fall_of (distance_parts r) m (effective_of d r.h) in
      let gain : ℕ = 10_000 * down r.c3.num in
      Lies (value σ (distance_term r (M m) d)) gain f.high gain f.low
  unfolding value distance_term ln_r_over_rref R fall_of sum_of effective_of ◌-q◌ up down
  distance_lies known {d} near =
      let X = sum_of_squares d r.h in
      let X_domain = effective_domain (squares near l.sizes.shallow l.sizes.deep) in
      let c3-Is = num_below r.c3 l.c3_decimals l.c3_below in
      let spreading : HeldBelow _ (multiple_of spread (ln_of X 10_000)) =
      minus_held _ _ spread (omega arith) (lies_natural _ _ (known.ln_within X_domain)) spread-Is in
      let anelastic =
      minus_held _ _ (200 * down r.c3.num) (omega arith) (km_held (root_of X) (known.root_within X)) c3-Is in
      let minus_one = neg-Is (over-Is (pos 1) 1 (omega arith)) in
      let pegged = lies_stated (mul-Is c3-Is minus_one) (10_000 * down r.c3.num) 0 (omega arith) in
      rw (distance_ln X) (lies_wider (lies_sum (lies_same (≈q_sym (mul_assoc _ _ _)) spreading)
      (lies_same (≈q_sym (mul_add _ _ _)) (lies_sum anelastic pegged))) _ _ _ _ (omega arith) (omega arith))

-- ---- the magnitude term

abbrev pub ExactLies : Fraction → Exact → Type 0
ExactLies x e = Lies x e.gain e.loss e.gain e.loss

-- a number that is printed with five decimals
abbrev printed : Fraction → Exact
printed x = record { gain = 10_000 * up x.num; loss = 10_000 * down x.num }

printed_lies : {x : Fraction} → x.den ≡ 100_000 → ExactLies x (printed x)
printed_lies {x} h = lies_stated (num-Is x h) _ _ (omega arith)

level_lies : (r : MagnitudeScaling) → MagnitudeSigns r → (mechanism : ℕ) → ExactLies (e r mechanism)
    (level_of (magnitude_parts r) mechanism)
unfolding e level_of
level_lies r l mechanism = go (eqb mechanism 9) (eqb mechanism 0) (eqb mechanism 1)
  where
    go : (a b c : Bool) → ExactLies (cond a r.e1 (cond b r.e2 (cond c r.e3 r.e4)))
        (cond a (printed r.e1) (cond b (printed r.e2) (cond c (printed r.e3) (printed r.e4))))
    go true b c = printed_lies l.e1_decimals
    go false true c = printed_lies l.e2_decimals
    go false false true = printed_lies l.e3_decimals
    go false false false = printed_lies l.e4_decimals

module _ (r : MagnitudeScaling) (l : MagnitudeSigns r) (m : ℕ) where
  -- Mh in hundredths, and M − Mh
  abbrev hinge : ℕ
  hinge = up r.Mh.num

  abbrev away : Fraction
  away = M m -q r.Mh

  hinge-Is : Is r.Mh hinge 0 100
  hinge-Is = num_above r.Mh l.Mh_decimals l.Mh_above

  away_at : Is away (m * 100 + 0 * 100) (0 * 100 + hinge * 100) (100 * 100)
  unfolding ◌-q◌
  away_at = add-Is (M-Is m) (neg-Is hinge-Is)

  -- M is up to Mh where its hundredths are
  up_to : (c : Bool) → le_q (M m) r.Mh ≡ c → leb m hinge ≡ c
  up_to true e = le-leb m hinge (omega (arith, le_as (M-Is m) hinge-Is (record { le = rw e tt })))
  up_to false e = lt-leb m hinge (omega (arith, lt_as hinge-Is (M-Is m) (record { lt = rw e tt })))

  -- e, with e5 (M − Mh) and e6 (M − Mh)² up to the hinge, and with e7 (M − Mh) above
  magnitude_lies : (mechanism : ℕ) → ExactLies (magnitude_term r (M m) mechanism)
      (magnitude_of (magnitude_parts r) m mechanism)
  unfolding magnitude_term magnitude_of
  magnitude_lies mechanism = go (le_q (M m) r.Mh) refl
    where
      go : (c : Bool) → le_q (M m) r.Mh ≡ c → ExactLies (magnitude_term r (M m) mechanism)
          (magnitude_of (magnitude_parts r) m mechanism)
      go true c =
          let i : Is away 0 (100 * (hinge - m)) 10_000 = omega (arith, away_at, leb-true m hinge (up_to true c)) in
          let slope = mul-Is (num_above r.e5 l.e5_decimals l.e5_above) i in
          let bow = mul-Is (num_below r.e6 l.e6_decimals l.e6_below) (mul-Is i i) in
          rw (c, up_to true c) (lies_wider (lies_sum (lies_sum (level_lies r l mechanism)
          (lies_stated slope 0 (100 * (up r.e5.num * (hinge - m))) (omega arith)))
          (lies_stated bow 0 (down r.e6.num * ((hinge - m) * (hinge - m))) (omega arith)))
          _ _ _ _ (omega arith) (omega arith))
      go false c =
          let i : Is away (100 * (m - hinge)) 0 10_000 = omega (arith, away_at, leb-false m hinge (up_to false c)) in
          let rise = mul-Is (num_above r.e7 l.e7_decimals l.e7_above) i in
          rw (c, up_to false c) (lies_wider (lies_sum (level_lies r l mechanism)
          (lies_stated rise (100 * (up r.e7.num * (m - hinge))) 0 (omega arith)))
          _ _ _ _ (omega arith) (omega arith))

-- ---- the motion on rock, by any row of the tables

pub rock_lies : {m d : ℕ} (k mechanism : ℕ) → k < row_count → 500 ≤ m → m ≤ 800 → d ≤ 19_999 → {σ : Points} → Known σ →
    LiesIn (value σ (on_rock (row_at k) m d mechanism)) (rock_of (distance_parts (row_at k).distance)
    (magnitude_parts (row_at k).magnitude) m (effective_of d (row_at k).distance.h) mechanism)
unfolding value on_rock rock_of
rock_lies k mechanism row least most near known =
    lies_wider (lies_sum (distance_lies (row_at k).distance (distance_limits_lem k row) least most known near)
    (magnitude_lies (row_at k).magnitude (magnitude_limits_lem k row) _ mechanism)) _ _ _ _ (omega arith) (omega arith)
