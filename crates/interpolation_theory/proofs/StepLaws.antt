-- What is promised between two neighbouring rows (specs/Promise), and that the code takes it: one law for both medians
-- and for Boore-Atkinson's sigma.
use mathlib.Core.List.{List, [], ◌∷◌}
use Prim.Native.Nat.{ℕ, ◌+◌, ◌*◌, ◌^◌, ◌≤◌, ◌<◌}
use native.Mathlib.Nat.{mul-le-mul_left, mul-le-mul_right}
use native.Mathlib.Omega.{arith}
use lib.Dec.{T}
use lib.ListN.{get_or}
use Rattle.toolbox_theory.proofs.Tests.{all_le, all_le_lem}
use Rattle.toolbox_theory.proofs.Whole.{within_more}
use Rattle.exact_theory.specs.Formula.{Formula}
use Rattle.interval_theory.specs.declared.SignedPair.{SignedPair}
use Rattle.interval_theory.specs.Bound.{Bound, SignedWithin, Ranges, Near}
use Rattle.logarithm_theory.specs.Promise.{LnDomain, ln_width}
use Rattle.logarithm_theory.specs.Evaluation.{ln_of}
use Rattle.logarithm_theory.proofs.Enclosure.{PairAtPoints, encloses}
use Rattle.interpolation_theory.specs.declared.Step.{Step}
use Rattle.interpolation_theory.specs.Between.{between}
use Rattle.interpolation_theory.specs.Evaluation.{interpolated_of, Share, InterpolationDomain}
use Rattle.interpolation_theory.specs.Steps.{StepAt, Neighbouring, step_least, step_most}
use Rattle.interpolation_theory.specs.Promise.{BetweenEnds}
use Rattle.interpolation_theory.proofs.Bounds.{interpolated_narrow, interpolated_reaches}
use Rattle.interpolation_theory.proofs.Bounds.{interpolated_small}
use Rattle.interpolation_theory.proofs.Domains.{interpolation_takes}
use Rattle.interpolation_theory.proofs.Laws.{ln_share, between_at_points}

-- ---- the neighbours in a list, by one test of each two

abbrev pub gap : List ℕ → ℕ → List (ℕ × ℕ)
gap periods k =
    let T1 = get_or periods k 0 in
    let T2 = get_or periods (k + 1) 0 in
    (1, T1) ∷ (T2, 10_000) ∷ (step_least, (ln_of T2 T1).low) ∷ ((ln_of T2 T1).high, step_most) ∷ []

pub neighbouring : (periods : List ℕ) (k : ℕ) {s : Step} → T (all_le (gap periods k)) → StepAt periods k s →
    Neighbouring s.period s.lower s.upper
neighbouring periods k t h =
    let p = all_le_lem (gap periods k) t in
    rw (h.lower, h.upper) (omega (arith, p, rw h.lower at h.above, rw h.upper at h.below))

-- what is decided of numbers alone: m is the width of both rows' pairs, w that of the result, and g is what its ends
-- may lie beyond theirs
pub record Decided (α β : Bound) (k m l h w g : ℕ) : Type 0 where
  pub some : 1 ≤ k
  pub first : α.width ≤ m
  pub second : β.width ≤ m
  pub narrow : m * (2 * ln_width) < step_least
  pub wide : m + k + 3 ≤ w
  pub room : k + 2 ≤ g
  pub low : l + g < 2 ^ 53
  pub high : h + g < 2 ^ 53

module _ {T T1 T2 : ℕ} (n : Neighbouring T T1 T2) where
  pub part_domain : LnDomain T T1
  part_domain = omega arith

  pub whole_domain : LnDomain T2 T1
  whole_domain = omega arith

  share : Share ln_width (ln_of T T1) (ln_of T2 T1)
  share = ln_share part_domain whole_domain (omega arith) (omega arith)

  module _ (a b : SignedPair) {α β : Bound} (p : SignedWithin a α) (q : SignedWithin b β) (d : ℕ) (near : Near d a b)
    where
      -- no product is too large
      pub step_takes : α.most < 2 ^ 60 → β.most < 2 ^ 60 → d * (step_most + 2 * ln_width) < 2 ^ 64 →
          InterpolationDomain a b (ln_of T T1) (ln_of T2 T1)
      step_takes hα hβ small =
          let high : (ln_of T2 T1).low + 2 * ln_width ≤ step_most + 2 * ln_width = omega (arith, share) in
          interpolation_takes a b p q near share hα hβ (omega arith) (omega (arith, mul-le-mul_left d high))

      -- k is what the widths of the logarithms may make of d; both rows' ends lie from −l to h
      pub between_promise : {v1 v2 : Formula} → PairAtPoints v1 a → PairAtPoints v2 b → (k : ℕ) →
          d * (2 * ln_width) ≤ k * (ln_of T2 T1).low → (m l h w g : ℕ) → Decided α β k m l h w g → Ranges l h a →
          Ranges l h b →
          BetweenEnds (between T T1 T2 v1 v2) w (l + g) (h + g) (interpolated_of a b (ln_of T T1) (ln_of T2 T1))
      between_promise x y k few m l h w g t r s =
          let e = interpolated_of a b (ln_of T T1) (ln_of T2 T1) in
          let width = mul-le-mul_right (2 * ln_width) t.first in
          let share_of_k = mul-le-mul_right (ln_of T2 T1).low t.some in
          record {
            encloses =
                encloses
                (between_at_points part_domain whole_domain (omega arith) (omega arith) a b x y p (omega arith));
            narrow =
                within_more _ e.low (m + k + 3) w t.wide
                (interpolated_narrow a b p q near share k few m t.first t.second (omega arith));
            reaches = interpolated_reaches a b p q near share k few l h r s g t.room;
            small = interpolated_small a b p q near share k few l h r s (2 ^ 53) (omega arith) (omega arith);
          }
