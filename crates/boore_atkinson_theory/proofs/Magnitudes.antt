-- The magnitude term is exact. Its gain rises with the magnitude and its loss falls, so that what is needed of it is
-- tested at some magnitudes, by every row and for each level.
use mathlib.Core.Path.{◌≡◌, refl}
use mathlib.Core.Bool.{Bool, true, false, cond}
use mathlib.Core.List.{List, [], ◌∷◌}
use Prim.Native.Nat.{ℕ, ◌+◌, ◌*◌, ◌-◌, ◌/◌, ◌≤◌, ◌<◌}
use native.Mathlib.Nat.{zero-add, le_trans, mul-le-mul, mul-le-mul_left}
use native.Mathlib.Decide.{dec_le}
use native.Mathlib.Omega.{arith}
use borrow.Author.Tests.{le-leb, lt-leb}
use lib.Dec.{T, eqb}
use Rattle.toolbox_theory.specs.Whole.{up, down}
use Rattle.toolbox_theory.specs.Lists.{among}
use Rattle.toolbox_theory.proofs.Tests.{every, every_at, all_below, below, all_le, AllLe, all_le_lem}
use Rattle.toolbox_theory.proofs.ListLaws.{all, all_at}
use Rattle.exact_theory.specs.Fraction.{◌over◌}
use Rattle.scenario_theory.specs.Rows.{row_count}
use Rattle.boore_atkinson_theory.specs.declared.Exact.{Exact}
use Rattle.boore_atkinson_theory.specs.declared.MagnitudeRow.{MagnitudeRow}
use Rattle.boore_atkinson_theory.specs.Tables.{MagnitudeScaling, table7, no_row}
use Rattle.boore_atkinson_theory.specs.Rows.{row_at, pga, magnitude_parts}
use Rattle.boore_atkinson_theory.specs.Evaluation.{level_of, magnitude_of}
use Rattle.boore_atkinson_theory.specs.Ranges.{term_limits}

-- ---- by any row

record Rises (e f : Exact) : Type 0 where
  gain : e.gain ≤ f.gain
  loss : f.loss ≤ e.loss

rises : (r : MagnitudeRow) (mechanism : ℕ) {m n : ℕ} → m ≤ n →
    Rises (magnitude_of r m mechanism) (magnitude_of r n mechanism)
unfolding magnitude_of
rises r mechanism {m} {n} h = elim (dec_le n r.11) [
  | yes p ↦
      let near : r.11 - n ≤ r.11 - m = omega arith in
      simp (le-leb n r.11 p, le-leb m r.11 (le_trans h p))
      (omega (arith, mul-le-mul_left r.8 near, mul-le-mul_left r.9 (mul-le-mul near near)))
  | no p ↦ elim (dec_le m r.11) [
    | yes q ↦ simp (lt-leb n r.11 (omega arith), le-leb m r.11 q) (omega arith)
    | no q ↦
        let far : m - r.11 ≤ n - r.11 = omega arith in
        simp (lt-leb n r.11 (omega arith), lt-leb m r.11 (omega arith))
        (omega (arith, mul-le-mul_left r.10 far))
  ]
]

-- a code for each level; any other code has that of 2
abbrev codes : List ℕ
codes = 9 ∷ 0 ∷ 1 ∷ 2 ∷ []

record Coded (r : MagnitudeRow) (e : Exact) : Type 0 where
  code : ℕ
  listed : among codes code ≡ true
  same : e ≡ level_of r code

coded : (r : MagnitudeRow) (mechanism : ℕ) → Coded r (level_of r mechanism)
unfolding level_of
coded r mechanism = go (eqb mechanism 9) (eqb mechanism 0) (eqb mechanism 1)
  where
    go : (a b c : Bool) → Coded r (cond a (level_of r 9) (cond b (level_of r 0) (cond c (level_of r 1) (level_of r 2))))
    go true b c = record { code = 9; listed = refl; same = refl }
    go false true c = record { code = 0; listed = refl; same = refl }
    go false false true = record { code = 1; listed = refl; same = refl }
    go false false false = record { code = 2; listed = refl; same = refl }

-- the limits hold of the terms at low and at high, for every code
module _ (r : MagnitudeRow) (low high : ℕ) (limits : Exact → Exact → List (ℕ × ℕ)) where
  abbrev holds : ℕ → Bool
  holds code = all_le (limits (magnitude_of r low code) (magnitude_of r high code))

  terms_within : T (all holds codes) → (mechanism : ℕ) →
      AllLe (limits (magnitude_of r low mechanism) (magnitude_of r high mechanism))
  unfolding magnitude_of
  terms_within t mechanism =
      let c = coded r mechanism in
      rw c.same (all_le_lem (limits (magnitude_of r low c.code) (magnitude_of r high c.code))
      (all_at holds codes c.code t c.listed))

-- ---- by every row, for magnitudes from 5.00 to 8.00, a fifth at a time: the test

abbrev fifth : ℕ → ℕ
fifth i = 500 + 20 * i

abbrev limits_at : ℕ → ℕ → Exact → Exact → List (ℕ × ℕ)
limits_at k i = term_limits (row_at k) (fifth i) (fifth (i + 1))

abbrev fifth_holds : ℕ → MagnitudeScaling → ℕ → Bool
fifth_holds k r i = all (holds (magnitude_parts r) (fifth i) (fifth (i + 1)) (limits_at k i)) codes

rows_within : T (every (λ k r. all_below 16 (fifth_holds k r)) 0 table7)
unfolding all_below magnitude_of level_of row_at up down ◌over◌
rows_within = tt

-- what holds of the magnitude term e at m, by the row k
pub record TermWithin (k m : ℕ) (e : Exact) : Type 0 where
  pub low : ℕ
  pub high : ℕ
  pub from : low ≤ m
  pub to : m ≤ high
  pub limits : AllLe (term_limits (row_at k) low high e e)

pub row_term : {k : ℕ} → k < row_count → (m mechanism : ℕ) → 500 ≤ m → m ≤ 800 →
    TermWithin k m (magnitude_of (magnitude_parts (row_at k).magnitude) m mechanism)
unfolding row_at
row_term {k} h m mechanism low high =
    let r = magnitude_parts (row_at k).magnitude in
    let i = (m - 500) / 20 in
    let p = every_at (λ k r. all_below 16 (fifth_holds k r)) no_row.magnitude 0 table7 rows_within k h in
    let t = below 16 (fifth_holds k (row_at k).magnitude) (rw (zero-add k) at p) i (omega arith) in
    let from : fifth i ≤ m = omega arith in
    let to : m ≤ fifth (i + 1) = omega arith in
    let w = terms_within r (fifth i) (fifth (i + 1)) (limits_at k i) t mechanism in
    record {
      low = fifth i;
      high = fifth (i + 1);
      from = from;
      to = to;
      limits = omega (arith, w, rises r mechanism from, rises r mechanism to);
    }

-- ---- by the row PGA

abbrev pub pga_magnitude : MagnitudeRow
pga_magnitude = magnitude_parts pga.magnitude

-- below zero, and by more than −c3 of any row
abbrev fall_limits : Exact → Exact → List (ℕ × ℕ)
fall_limits e f = (f.gain + 10_000 * 1_151, f.loss) ∷ []

pga_within : T (all (holds pga_magnitude 800 800 fall_limits) codes)
unfolding magnitude_of level_of row_at up down ◌over◌
pga_within = tt

pub pga_falls : (m mechanism : ℕ) → m ≤ 800 →
    let e = magnitude_of pga_magnitude m mechanism in e.gain + 10_000 * 1_151 ≤ e.loss
pga_falls m mechanism high =
    omega (
      arith,
      terms_within pga_magnitude 800 800 fall_limits pga_within mechanism,
      rises pga_magnitude mechanism high,
    )
