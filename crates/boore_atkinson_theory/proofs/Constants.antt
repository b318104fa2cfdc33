-- The constant pairs hold what they stand for: the logarithm computes the four logarithms and those that the others are
-- made of, and each quotient is compared by a product.
use Rattle.std.specs.Prelude.{ℕ}
use mathlib.Core.Path.{◌≡◌, refl}
use Prim.Native.Nat.{ℕ, ◌*◌, ◌/◌, ◌<◌}
use native.Mathlib.Omega.{arith}
use lib.Count.{count_leading_zeros}
use lib.IntN.{pos, neg_ℤ}
use lib.Dec.{T}
use Rattle.toolbox_theory.specs.Whole.{up, down}
use Rattle.exact_theory.specs.Fraction.{◌over◌, ◌-q◌, ◌*q◌, ◌/q◌, recip_q}
use Rattle.exact_theory.proofs.FractionLaws.{over-Is}
use Rattle.exact_theory.proofs.Points.{Points}
use Rattle.exact_theory.proofs.UnitLaws.{lies_natural, lies_negated, lies_wider, lies_difference, lies_multiple}
use Rattle.interval_theory.specs.declared.Ends.{Ends}
use Rattle.interval_theory.specs.Natural.{product_of}
use Rattle.interval_theory.specs.Bound.{size, ◌fits◌}
use Rattle.interval_theory.proofs.NaturalValues.{Held, HeldBelow, product_held, recip_held}
use Rattle.logarithm_tables_theory.specs.Tables.{coarse_at, fine_at}
use Rattle.logarithm_theory.specs.Bound.{ln_between}
use Rattle.logarithm_theory.specs.Promise.{LnDomain, ln_width}
use Rattle.logarithm_theory.specs.Evaluation.{scaled_of, near_one_of, mantissa_ln_of, scaled_ln_of, ln_of}
use Rattle.logarithm_theory.proofs.Enclosure.{Known}
use Rattle.boore_atkinson_theory.specs.Constants.{minus_ln_low, minus_ln_a1, minus_ln_a2, ln_ten, over_slow, over_fast}
use Rattle.boore_atkinson_theory.specs.Constants.{c_over, d_over}
use Rattle.boore_atkinson_theory.specs.Tables.{a1, pga_low, a2, Vref, V2, V1}
use Rattle.boore_atkinson_theory.specs.Sizes.{vs30_most}

abbrev pair : ℕ → ℕ → Ends ℕ
pair low high = record { low = low; high = high }

-- the quotients of Table 4's accelerations in Δx and Δy have no remainder
pub no_remainder : (a1 * (a2 / a1) ≡ a2) × (pga_low * (10 * a2 / pga_low) ≡ 10 * a2)
no_remainder = (refl, refl)

-- ---- the computed test

-- the ends that the logarithm computes
record Computed : Type 0 where
  low : ln_of 10 6 ≡ minus_ln_low
  first : ln_of 100 3 ≡ minus_ln_a1
  second : ln_of 100 9 ≡ minus_ln_a2
  ten : ln_of 10 1 ≡ ln_ten
  slow : ln_of V2 V1 ≡ minus_ln_low
  fast : ln_of Vref V2 ≡ pair 929_535_958 929_535_959
  three : ln_of 3 1 ≡ pair 1_098_612_288 1_098_612_289
  half_more : ln_of 15 10 ≡ pair 405_465_108 405_465_109

computed : Computed
unfolding ln_of scaled_of scaled_ln_of mantissa_ln_of near_one_of coarse_at fine_at count_leading_zeros
computed = search

-- ln(760/V) and ln(V/760), for V from 180 to 1300 m/s
pub slow_limits : T (ln_between Vref Vref V1 Vref fits size ln_width vs30_most)
unfolding ln_of scaled_of scaled_ln_of mantissa_ln_of near_one_of coarse_at fine_at count_leading_zeros
slow_limits = tt

pub fast_limits : T (ln_between Vref 13_000 Vref Vref fits size ln_width vs30_most)
unfolding ln_of scaled_of scaled_ln_of mantissa_ln_of near_one_of coarse_at fine_at count_leading_zeros
fast_limits = tt

-- ---- what they hold

module _ {σ : Points} (known : Known σ) where
  at_computed : {a b : ℕ} {e : Ends ℕ} → LnDomain a b → ln_of a b ≡ e → Held (σ.ln_at a b) e
  at_computed d same = rw (← same) (lies_natural _ _ (known.ln_within d))

  pub low_held : Held (σ.ln_at 10 6) minus_ln_low
  low_held = at_computed (omega arith) computed.low

  -- ln(a/b), a below b, is that of b/a, negated
  turned : (a b : ℕ) {e : Ends ℕ} → a < b → Held (σ.ln_at b a) e → HeldBelow (σ.ln_at a b) e
  turned a b less h = rw (known.ln_negated less) (lies_negated h)

  pub first_below : HeldBelow (σ.ln_at 3 100) minus_ln_a1
  first_below = turned 3 100 (omega arith) (at_computed (omega arith) computed.first)

  pub second_below : HeldBelow (σ.ln_at 9 100) minus_ln_a2
  second_below = turned 9 100 (omega arith) (at_computed (omega arith) computed.second)

  pub ten_below : HeldBelow (σ.ln_at 1 10) ln_ten
  ten_below = turned 1 10 (omega arith) (at_computed (omega arith) computed.ten)

  pub slow_held : Held (recip_q (σ.ln_at V2 V1)) over_slow
  slow_held = recip_held (at_computed (omega arith) computed.slow) (omega arith) over_slow (omega arith) (omega arith)

  pub fast_held : Held (recip_q (σ.ln_at Vref V2)) over_fast
  fast_held = recip_held (at_computed (omega arith) computed.fast) (omega arith) over_fast (omega arith) (omega arith)

  -- x and ln 1.5
  three_held : Held (σ.ln_at 3 1) (pair 1_098_612_288 1_098_612_289)
  three_held = at_computed (omega arith) computed.three

  half_held : Held (σ.ln_at 15 10) (pair 405_465_108 405_465_109)
  half_held = at_computed (omega arith) computed.half_more

  square_held : Held (σ.ln_at 3 1 *q σ.ln_at 3 1) (pair 1_206_948_959 1_206_948_962)
  unfolding product_of
  square_held = product_held three_held three_held

  cube_held : Held (σ.ln_at 3 1 *q σ.ln_at 3 1 *q σ.ln_at 3 1) (pair 1_325_968_957 1_325_968_962)
  unfolding product_of
  cube_held = product_held square_held three_held

  -- 3 ln 1.5 − x, and −(2 ln 1.5 − x)
  top_c : Held (pos 3 over 1 *q σ.ln_at 15 10 -q σ.ln_at 3 1) (pair 117_783_035 117_783_039)
  unfolding up down
  top_c =
      lies_wider (lies_difference
      (lies_multiple (over-Is (pos 3) 1 (omega arith)) half_held 1_216_395_324 0 1_216_395_327 0 (omega arith)
      (omega arith) (omega arith) (omega arith))
      three_held) 117_783_035 0 117_783_039 0 (omega arith) (omega arith)

  top_d : Held (neg_ℤ (pos 1) over 1 *q (pos 2 over 1 *q σ.ln_at 15 10 -q σ.ln_at 3 1)) (pair 287_682_070 287_682_073)
  unfolding up down
  top_d =
      let twice =
      lies_multiple (over-Is (pos 2) 1 (omega arith)) half_held 810_930_216 0 810_930_218 0 (omega arith) (omega arith)
      (omega arith) (omega arith) in
      lies_multiple (over-Is (neg_ℤ (pos 1)) 1 (omega arith))
      (lies_difference twice three_held) 287_682_070 0 287_682_073 0
      (omega arith) (omega arith) (omega arith) (omega arith)

  -- c and d over the slope
  pub c_held : Held ((pos 3 over 1 *q σ.ln_at 15 10 -q σ.ln_at 3 1) /q (σ.ln_at 3 1 *q σ.ln_at 3 1)) c_over
  unfolding ◌/q◌ product_of
  c_held =
      product_held top_c
      (recip_held square_held (omega arith) (pair 828_535_448 828_535_451) (omega arith) (omega arith))

  pub d_held :
      Held (neg_ℤ (pos 1) over 1 *q (pos 2 over 1 *q σ.ln_at 15 10 -q σ.ln_at 3 1) /q
      (σ.ln_at 3 1 *q σ.ln_at 3 1 *q σ.ln_at 3 1)) d_over
  unfolding ◌/q◌ product_of
  d_held =
      product_held top_d (recip_held cube_held (omega arith) (pair 754_165_465 754_165_469) (omega arith) (omega arith))
