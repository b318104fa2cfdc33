-- The linear part and the slope lie where the evaluation has them.
use mathlib.Core.Path.{◌≡◌, refl}
use mathlib.Core.Bool.{Bool, true, false, cond}
use Prim.Native.Nat.{ℕ, ◌*◌, ◌-◌, ◌≤◌, ◌<◌}
use native.Mathlib.Decide.{dec_le}
use native.Mathlib.Omega.{arith}
use borrow.Author.Tests.{leb-true, ltb-true, lt-ltb, le-ltb}
use lib.Dec.{leb, ltb}
use Rattle.toolbox_theory.specs.Whole.{down}
use Rattle.exact_theory.specs.Fraction.{◌+q◌, ◌-q◌, ◌*q◌, ◌/q◌, recip_q}
use Rattle.exact_theory.proofs.FractionLaws.{Is, zero-Is, num_below, add-Is, neg-Is}
use Rattle.exact_theory.proofs.AlgebraLaws.{mul_assoc}
use Rattle.exact_theory.proofs.Points.{Points, value}
use Rattle.exact_theory.proofs.UnitLaws.{lies_natural, lies_negated, lies_same, lies_wider, lies_stated}
use Rattle.exact_theory.proofs.UnitLaws.{lies_sum}
use Rattle.interval_theory.specs.Natural.{sum_of}
use Rattle.interval_theory.proofs.NaturalValues.{Held, HeldBelow, minus_held, minus_below, product_held}
use Rattle.interval_theory.proofs.SignedValues.{LiesIn}
use Rattle.logarithm_theory.specs.Promise.{LnDomain}
use Rattle.logarithm_theory.specs.Evaluation.{ln_of}
use Rattle.logarithm_theory.proofs.Enclosure.{Known}
use Rattle.boore_atkinson_theory.specs.Tables.{SiteAmplification, Vref, V2, V1}
use Rattle.boore_atkinson_theory.specs.SiteTerm.{linear_part, bnl}
use Rattle.boore_atkinson_theory.specs.Rows.{site_parts, SiteSigns}
use Rattle.boore_atkinson_theory.specs.Evaluation.{linear_of, slow_slope_of, fast_slope_of, slope_of}
use Rattle.boore_atkinson_theory.proofs.Constants.{slow_held, fast_held}

-- what holds of each value that the slope's ranges choose from holds of the choice
pub in_ranges : {A : Type 0} (Q : A → Type 0) (v : ℕ) {w x y z : A} → Q w → (v ≤ V2 → Q x) → (v < Vref → Q y) → Q z →
    Q (cond (leb v V1) w (cond (leb v V2) x (cond (ltb v Vref) y z)))
in_ranges Q v {w} {x} {y} {z} first slow fast last = go (leb v V1) (leb v V2) (ltb v Vref) refl refl
  where
    go : (a b c : Bool) → leb v V2 ≡ b → ltb v Vref ≡ c → Q (cond a w (cond b x (cond c y z)))
    go true b c eb ec = first
    go false true c eb ec = slow (leb-true v V2 eb)
    go false false true eb ec = fast (ltb-true v Vref ec)
    go false false false eb ec = last

module _ (s : SiteAmplification) (l : SiteSigns s) {σ : Points} (known : Known σ) {v : ℕ} (slow : V1 ≤ v)
    (fast : v ≤ 13_000) where
  at_ends : {a b : ℕ} → LnDomain a b → Held (σ.ln_at a b) (ln_of a b)
  at_ends d = lies_natural _ _ (known.ln_within d)

  -- ---- blin ln(V/760)

  blin-Is : Is s.blin 0 (down s.blin.num) 1_000
  blin-Is = num_below s.blin l.blin_decimals l.blin_below

  pub linear_lies : LiesIn (value σ (linear_part s v)) (linear_of (site_parts s) v)
  unfolding value linear_part linear_of
  linear_lies = elim (dec_le Vref v) [
    | yes h ↦ rw (le-ltb v Vref h) (minus_held _ _ _ (omega arith) (at_ends (omega arith)) blin-Is)
    | no h ↦
        rw (lt-ltb v Vref (omega arith), known.ln_negated {a = v} {b = Vref} (omega arith))
        (minus_below _ _ _ (omega arith) (lies_negated (at_ends (omega arith))) blin-Is)
  ]

  -- ---- bnl

  b1-Is : Is s.b1 0 (down s.b1.num) 1_000
  b1-Is = num_below s.b1 l.b1_decimals l.b1_below

  b2-Is : Is s.b2 0 (down s.b2.num) 100
  b2-Is = num_below s.b2 l.b2_decimals l.b2_below

  -- b1 − b2
  apart-Is : Is (s.b1 -q s.b2) 0 (100 * (down s.b1.num - 10 * down s.b2.num)) 100_000
  unfolding ◌-q◌
  apart-Is = let i = add-Is b1-Is (neg-Is b2-Is) in omega arith

  -- up to 300 m/s
  slow_below : v ≤ V2 →
      HeldBelow ((s.b1 -q s.b2) *q σ.ln_at V2 v /q σ.ln_at V2 V1 +q s.b2) (slow_slope_of (site_parts s) v)
  unfolding ◌/q◌ slow_slope_of sum_of
  slow_below h =
      lies_wider (lies_sum (lies_same (mul_assoc (s.b1 -q s.b2) (σ.ln_at V2 v) (recip_q (σ.ln_at V2 V1)))
      (minus_held _ _ (20_000 * (down s.b1.num - 10 * down s.b2.num)) (omega arith)
      (product_held (at_ends (omega arith)) (slow_held known)) apart-Is))
      (lies_stated b2-Is 0 (10_000_000 * down s.b2.num) (omega arith))) _ _ _ _ (omega arith) (omega arith)

  -- below 760 m/s
  fast_below : v < Vref → HeldBelow (s.b2 *q σ.ln_at Vref v /q σ.ln_at Vref V2) (fast_slope_of (site_parts s) v)
  unfolding ◌/q◌ fast_slope_of
  fast_below h =
      lies_same (mul_assoc s.b2 (σ.ln_at Vref v) (recip_q (σ.ln_at Vref V2)))
      (minus_held _ _ _ (omega arith) (product_held (at_ends (omega arith)) (fast_held known)) b2-Is)

  pub slope_below : HeldBelow (value σ (bnl s v)) (slope_of (site_parts s) v)
  unfolding value bnl slope_of
  slope_below = go (leb v V1) (leb v V2) (ltb v Vref) refl refl refl
    where
      go : (a b c : Bool) → leb v V1 ≡ a → leb v V2 ≡ b → ltb v Vref ≡ c →
          HeldBelow (value σ (bnl s v)) (slope_of (site_parts s) v)
      go true b c ea eb ec = rw ea (lies_stated b1-Is _ _ (omega arith))
      go false true c ea eb ec = rw (ea, eb) (slow_below (leb-true v V2 eb))
      go false false true ea eb ec = rw (ea, eb, ec) (fast_below (ltb-true v Vref ec))
      go false false false ea eb ec = rw (ea, eb, ec) (lies_stated zero-Is 0 0 (omega arith))
