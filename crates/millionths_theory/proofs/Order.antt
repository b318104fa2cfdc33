-- The ends of ln(k/10^6): they enclose it, and those of a greater k are above those of a lesser one.
use Rattle.std.specs.Prelude.{ℤ}
use mathlib.Core.Path.{◌≡◌}
use Prim.Native.Nat.{ℕ, ◌+◌, ◌*◌, ◌-◌, ◌^◌, ◌≤◌, ◌<◌}
use native.Mathlib.Decide.{dec_lt}
use native.Mathlib.Omega.{arith}
use lib.Dec.{leb, leb→le, nleb→lt}
use lib.IntN.{ℤ}
use Rattle.toolbox_theory.specs.Whole.{up, down}
use Rattle.toolbox_theory.proofs.Tests.{by_test}
use Rattle.toolbox_theory.proofs.Whole.{le_in, le_out, sub_is}
use Rattle.exact_theory.specs.Pair.{◌∈◌}
use Rattle.exact_theory.specs.Formula.{ln, ends, Encloses}
use Rattle.exact_theory.proofs.Points.{value, Sound}
use Rattle.exact_theory.proofs.UnitLaws.{in_order, lies_natural, lies_negated, lies_ends}
use Rattle.interval_theory.specs.declared.Ends.{Ends}
use Rattle.interval_theory.specs.Natural.{unit}
use Rattle.interval_theory.specs.Signed.{between_of}
use Rattle.logarithm_theory.specs.Promise.{LnDomain, ln_width}
use Rattle.logarithm_theory.specs.Evaluation.{ln_of}
use Rattle.logarithm_theory.proofs.Laws.{ln_of_rounded}
use Rattle.logarithm_theory.proofs.Chain.{at_least, ln_of_chain, ln_of_steps}
use Rattle.logarithm_theory.proofs.Enclosure.{encloses}
use Rattle.millionths_theory.specs.Promise.{million}
use Rattle.millionths_theory.specs.Evaluation.{from_million, before_million, ln_millionths, most, up_to}
use Rattle.millionths_theory.proofs.Search.{Falls}

-- ---- they enclose it

pub ln_encloses : (k : ℕ) → 1 ≤ k → k < 2 ^ 29 →
    Encloses (ends (ln_millionths k).low (ln_millionths k).high) (ln k million)
unfolding ln_millionths between_of value Sound
ln_encloses k some small =
    encloses (record {
      sound = (some, omega arith);
      held = λ σ known.
          by_test (leb million k) (λ (e : Ends ℤ). σ.ln_at k million ∈ ends e.low e.high)
          (λ t. lies_ends (lies_natural _ _ (known.ln_within (omega (arith, leb→le million k t)))))
          (λ t.
          let h = nleb→lt million k t in
          rw (known.ln_negated h)
          (lies_ends (lies_negated (lies_natural _ _ (known.ln_within (omega arith))))));
    })

-- ---- their order

-- the low end of e is at least g above the high end of d
abbrev pub Above : ℕ → Ends ℤ → Ends ℤ → Type 0
Above g d e = up d.high + g + down e.low ≤ up e.low + down d.high

between_above : (g a b c d p q r s : ℕ) → c + g + q ≤ p + d → Above g (between_of a b c d) (between_of p q r s)
unfolding between_of
between_above g a b c d p q r s h = omega (arith, sub_is c d, sub_is p q)

module _ {j k : ℕ} (g : ℕ) (some : 1 ≤ j) (order : j ≤ k) (small : k < 2 ^ 29)
    (wide : (g + 3 * ln_width) * k ≤ (k - j) * unit) where
  -- where 10^6 is between them, ln(k/j) is the sum of two
  across : j < million → million ≤ k → g ≤ (ln_of k million).low + (ln_of million j).low
  across before after =
      let whole : LnDomain k j = omega arith in
      omega (
        arith,
        at_least whole (g + 3 * ln_width) wide,
        ln_of_chain {b = million} whole (omega arith) after,
        (ln_of_rounded whole).sized,
        (ln_of_rounded {a = k} {b = million} (omega arith)).sized,
        (ln_of_rounded {a = million} {b = j} (omega arith)).sized,
      )

  pub apart : Above g (ln_millionths j) (ln_millionths k)
  unfolding ln_millionths
  apart =
      by_test (leb million j) (λ d. Above g d (ln_millionths k))
      (λ t.
      let h = leb→le million j t in
      by_test (leb million k) (Above g (from_million j))
      (λ _.
      let steps = ln_of_steps {a = k} {b = j} {c = million} (omega arith) h order in
      between_above g _ _ _ 0 _ 0 _ _ (omega (arith, steps.numerators g wide)))
      (λ u. absurd (omega (arith, nleb→lt million k u))))
      (λ t.
      let h = nleb→lt million j t in
      by_test (leb million k) (Above g (before_million j))
      (λ u. between_above g _ _ 0 _ _ 0 _ _ (omega (arith, across h (leb→le million k u))))
      (λ u.
      let steps = ln_of_steps {a = million} {b = k} {c = j} (omega arith) order (omega (arith, nleb→lt million k u)) in
      between_above g _ _ 0 _ 0 _ _ _ (omega (arith, steps.denominators g wide))))

-- ---- so all before one that is up to z units are

-- the low end of k is not above the high end
ordered : (k : ℕ) → 1 ≤ k → k < 2 ^ 29 →
    up (ln_millionths k).low + down (ln_millionths k).high ≤ up (ln_millionths k).high + down (ln_millionths k).low
ordered k some small = le_out (ln_millionths k).low (ln_millionths k).high (in_order (ln_encloses k some small)).le

pub up_to_falls : (z : ℤ) → Falls most (up_to z)
up_to_falls z j k some order few t = elim (dec_lt j k) [
  | yes less ↦
      le_in (ln_millionths j).high z (omega (
        arith,
        apart {j = j} {k = k} 0 some order (omega arith) (omega arith),
        ordered k (omega arith) (omega arith),
        le_out (ln_millionths k).high z t,
      ))
  | no same ↦ let e : j ≡ k = omega arith in rw e t
]
