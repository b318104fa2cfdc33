-- What `sigma_of` promises (specs/Promise).
use Rattle.std.specs.Prelude.{ℤ}
use mathlib.Core.Path.{◌≡◌, refl, ◌∙◌}
use Prim.Native.Nat.{ℕ, ◌^◌, ◌<◌}
use native.Mathlib.Omega.{arith}
use lib.Dec.{eqb, ltb, eqb→eq, ltb→lt, nltb→le}
use lib.IntN.{pos}
use Rattle.toolbox_theory.specs.Whole.{up, down}
use Rattle.toolbox_theory.proofs.Tests.{by_test}
use Rattle.exact_theory.specs.Fraction.{◌over◌, ◌*q◌}
use Rattle.exact_theory.specs.Formula.{ln, ln_q, ends}
use Rattle.exact_theory.proofs.FractionLaws.{over-Is, mul-Is}
use Rattle.exact_theory.proofs.Points.{Points, value, Sound, ln_q_is}
use Rattle.exact_theory.proofs.UnitLaws.{lies_natural, lies_negated, lies_stated, lies_wider, lies_sum}
use Rattle.exact_theory.proofs.UnitLaws.{lies_difference}
use Rattle.interval_theory.specs.declared.SignedPair.{SignedPair}
use Rattle.interval_theory.specs.declared.Ends.{Ends}
use Rattle.interval_theory.specs.Natural.{MultipleDomain, sum_of}
use Rattle.interval_theory.specs.Signed.{ends_of}
use Rattle.interval_theory.specs.Bound.{size, Sized, SignedSized}
use Rattle.interval_theory.proofs.Bounded.{given, multiple, multiple_fits, at_most}
use Rattle.interval_theory.proofs.SignedBounds.{signed_wider, pair_of, ends_narrow, ends_small}
use Rattle.interval_theory.proofs.NaturalValues.{Held, HeldBelow, multiple_held, multiple_below}
use Rattle.interval_theory.proofs.SignedValues.{LiesIn}
use Rattle.interval_theory.proofs.NaturalBounds.{fitting, exactly_within, sum_within}
use Rattle.logarithm_theory.specs.Promise.{LnDomain}
use Rattle.logarithm_theory.specs.Evaluation.{ln_of}
use Rattle.logarithm_theory.proofs.Bounds.{ln_sized}
use Rattle.logarithm_theory.proofs.Enclosure.{Known, AtPoints, encloses, PairAtPoints, at_ends}
use Rattle.scenario_theory.specs.Neighbours.{idriss_printed}
use Rattle.idriss_theory.specs.Sigma.{clamp, sigma}
use Rattle.idriss_theory.specs.Promise.{sigma_width, SigmaEnds, ByClamped}
use Rattle.idriss_theory.specs.Evaluation.{clamped_magnitude, clamped_period, constant_term, magnitude_term_of}
use Rattle.idriss_theory.specs.Evaluation.{period_term_of, sigma_pair_of, sigma_of}
use Rattle.idriss_theory.specs.Sizes.{period_term_most}

-- period 0 is clamped like 0.01 s
own_clamped : (most period : ℕ) → clamp 50 most (idriss_printed period) ≡ clamp 50 most period
own_clamped most period =
    by_test (eqb period 0) (λ t. clamp 50 most t ≡ clamp 50 most period) (λ e. rw (eqb→eq period 0 e) refl) (λ e. refl)

-- ---- 0.035 ln(a/b), and below zero 0.035 ln(b/a)

module _ {a b : ℕ} (domain : LnDomain a b) where
  module _ {σ : Points} (known : Known σ) where
    ln_held : Held (σ.ln_at a b) (ln_of a b)
    ln_held = lies_natural _ _ (known.ln_within domain)

    term_held : Held (pos 35 over 1_000 *q σ.ln_at a b) (period_term_of a b)
    unfolding period_term_of up down
    term_held = multiple_held 35 1_000 700_000 (omega arith) ln_held (over-Is (pos 35) 1_000 (omega arith))

    term_below : b < a → HeldBelow (pos 35 over 1_000 *q σ.ln_at b a) (period_term_of a b)
    unfolding period_term_of up down
    term_below h =
        multiple_below 35 1_000 700_000 (omega arith) (rw (known.ln_negated h) (lies_negated ln_held))
        (over-Is (pos 35) 1_000 (omega arith))

  pub term_fits : MultipleDomain 700_000 (ln_of a b)
  term_fits = multiple_fits 700_000 (omega arith) (given (ln_sized domain)) tt

  pub term_sized : Sized (period_term_of a b) 2 period_term_most
  unfolding period_term_of
  term_sized = at_most (multiple 700_000 (omega arith) (given (ln_sized domain))) (size 2 period_term_most) tt

-- ---- sigma

module _ (period magnitude : ℕ) where
  abbrev t : ℕ
  t = clamped_period period

  abbrev m : ℕ
  m = clamped_magnitude magnitude

  abbrev pair : SignedPair
  pair = sigma_pair_of t m

  -- the term is added or taken off
  pub sigma_pair_of_at_points : PairAtPoints (sigma period magnitude) pair
  unfolding sigma Sound value sigma_pair_of sum_of up down
  sigma_pair_of_at_points =
      let period_ln : (t : ℕ) → ln_q (pos t over 1_000) ≡ ln t 1_000 =
      λ t. ln_q_is (over-Is (pos t) 1_000 (omega arith)) in
      let constant = lies_stated (over-Is (pos 118) 100 (omega arith)) constant_term 0 (omega arith) in
      let six = mul-Is (over-Is (pos 6) 100 (omega arith)) (over-Is (pos m) 100 (omega arith)) in
      let rest = lies_stated six (magnitude_term_of m) 0 (omega arith) in
      record {
        sound = rw (own_clamped, period_ln) ((tt, (tt, (omega arith, omega arith))), tt);
        held = λ σ known. rw (own_clamped, period_ln)
            (by_test (ltb t 1_000) (LiesIn _)
            (λ e.
            let below = ltb→lt t 1_000 e in
            lies_wider (lies_difference (lies_sum constant (term_below (omega arith) known below)) rest)
            _ _ _ _ (omega arith) (omega arith))
            (λ e.
            let above = nltb→le t 1_000 e in
            lies_wider (lies_difference (lies_sum constant (term_held (omega arith) known)) rest)
            _ _ _ _ (omega arith) (omega arith)));
      }

  pub sigma_pair_of_sized : SignedSized pair sigma_width 3_000_000_000
  unfolding sigma_pair_of
  sigma_pair_of_sized =
      let rest = exactly_within {n = magnitude_term_of m} 450_000_000 (omega arith) in
      let constant = exactly_within {n = constant_term} constant_term (omega arith) in
      by_test (ltb t 1_000) (λ p. SignedSized p sigma_width 3_000_000_000)
      (λ e.
      let below = ltb→lt t 1_000 e in
      signed_wider (pair_of constant (sum_within rest (term_sized (omega arith)))) (fitting tt))
      (λ e.
      let above = nltb→le t 1_000 e in
      signed_wider (pair_of (sum_within constant (term_sized (omega arith))) rest) (fitting tt))

  -- at points, as of the median
  pub sigma_of_at_points :
      let e = sigma_of period magnitude in
      AtPoints (sigma period magnitude) (ends e.low e.high)
  unfolding sigma_of
  sigma_of_at_points = at_ends pair sigma_pair_of_at_points

  -- the promise
  pub sigma_of_promise : SigmaEnds period magnitude (sigma_of period magnitude)
  unfolding sigma_of
  sigma_of_promise = record {
    encloses = encloses sigma_of_at_points;
    narrow = ends_narrow pair sigma_width sigma_pair_of_sized (omega arith);
    small = ends_small pair (2 ^ 53) sigma_pair_of_sized (omega arith);
  }

-- it goes by what is clamped
pub by_clamped : ByClamped sigma_of
unfolding sigma_of
by_clamped period magnitude =
    let twice : clamped_period (clamped_period period) ≡ clamped_period period = omega arith in
    let again : clamped_magnitude (clamped_magnitude magnitude) ≡ clamped_magnitude magnitude = omega arith in
    rw (twice, again) refl

-- every pair of which a contract says that it is sigma's, by numbers that are clamped, keeps the promise
pub sigma_ends : {period magnitude t m : ℕ} {r : Ends ℤ} → r ≡ ends_of (sigma_pair_of t m) →
    t ≡ clamped_period period → m ≡ clamped_magnitude magnitude →
    (r ≡ sigma_of period magnitude) × SigmaEnds period magnitude r
unfolding sigma_of
sigma_ends {period} {magnitude} {r = r} e t-is m-is =
    let is : r ≡ sigma_of period magnitude = e ∙ rw (t-is, m-is) refl in
    (is, rw is (sigma_of_promise period magnitude))
