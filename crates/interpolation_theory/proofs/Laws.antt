-- What is computed between two rows by the engine's own logarithms holds the formula at whatever points are known.
use mathlib.Core.Path.{◌≡◌}
use Prim.Native.Nat.{ℕ, ◌*◌, ◌≤◌, ◌<◌}
use native.Mathlib.Decide.{dec_lt}
use native.Mathlib.Omega.{arith}
use Rattle.exact_theory.specs.Formula.{Formula, ends}
use Rattle.exact_theory.proofs.Points.{value, Sound, positive_ln}
use Rattle.exact_theory.proofs.UnitLaws.{lies_natural}
use Rattle.interval_theory.specs.declared.SignedPair.{SignedPair}
use Rattle.interval_theory.specs.Bound.{Bound, SignedWithin}
use Rattle.logarithm_theory.specs.Promise.{LnDomain, ln_width}
use Rattle.logarithm_theory.specs.Evaluation.{ln_of}
use Rattle.logarithm_theory.proofs.Laws.{ln_of_promise}
use Rattle.logarithm_theory.proofs.Bounds.{ln_sized}
use Rattle.logarithm_theory.proofs.Chain.{ln_of_chain}
use Rattle.logarithm_theory.proofs.Enclosure.{AtPoints, PairAtPoints}
use Rattle.interpolation_theory.specs.Between.{between}
use Rattle.interpolation_theory.specs.Evaluation.{interpolated_of, Share}
use Rattle.interpolation_theory.proofs.Values.{interpolated_in}

module _ {T T1 T2 : ℕ} (part : LnDomain T T1) (whole : LnDomain T2 T1) (up_to_lem : T ≤ T2)
    (some : 1 ≤ (ln_of T2 T1).low) where
  -- ln(T/T1) is a part of ln(T2/T1)
  pub ln_share : Share ln_width (ln_of T T1) (ln_of T2 T1)
  ln_share = omega (arith, ln_sized part, ln_sized whole, (ln_of_chain whole part.order up_to_lem).low)

  -- else both ends of ln(T2/T1) are 0
  apart : T1 < T2
  apart = elim (dec_lt T1 T2) [
    | yes h ↦ h
    | no h ↦ let e : T2 ≡ T1 = omega arith in absurd (omega (arith, ((ln_of_promise whole).same e).0))
  ]

  -- what it encloses, by a pair for each row
  pub between_at_points : {v1 v2 : Formula} (a b : SignedPair) {α : Bound} → PairAtPoints v1 a → PairAtPoints v2 b →
      SignedWithin a α → α.width * (2 * ln_width) ≤ (ln_of T2 T1).low →
      let r = interpolated_of a b (ln_of T T1) (ln_of T2 T1) in
      AtPoints (between T T1 T2 v1 v2) (ends r.low r.high)
  unfolding between Sound value
  between_at_points a b p q within tight = record {
    sound = (p.sound, (((q.sound, p.sound), omega arith), positive_ln whole.least apart));
    held = λ σ known.
        interpolated_in a b (p.held σ known) (q.held σ known) (lies_natural _ _ (known.ln_within part))
        (lies_natural _ _ (known.ln_within whole)) within ln_share tight;
  }
