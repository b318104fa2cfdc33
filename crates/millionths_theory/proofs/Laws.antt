-- The promise of an answer in millionths, for every scenario: it follows from what is promised of the answer and from
-- where its median lies. The models are not looked at.
use mathlib.Core.Path.{◌≡◌, refl, sym, ap}
use Prim.Native.Nat.{ℕ, ◌*◌, ◌≤◌}
use native.Mathlib.Omega.{arith}
use lib.Dec.{eqb}
use lib.IntN.{pos}
use lib.ListN.{get_or}
use Rattle.std.specs.Prelude.{ℤ, Ok, Err}
use Rattle.toolbox_theory.proofs.Tests.{by_test}
use Rattle.toolbox_theory.proofs.Whole.{within_more}
use Rattle.scenario_theory.specs.declared.Scenario.{Scenario}
use Rattle.scenario_theory.specs.Refusal.{Limits, idriss, boore_atkinson, refusal_of}
use Rattle.scenario_theory.specs.Neighbours.{has_row}
use Rattle.scenario_theory.proofs.NumberLaws.{refusal_numbered}
use Rattle.engine_theory.specs.declared.Enclosure.{Enclosure}
use Rattle.engine_theory.specs.Models.{median, width_at, median_width, idriss_width, boore_atkinson_width}
use Rattle.engine_theory.specs.Promise.{Answer, shown_ends, EnclosesBoth, AnswerPromise}
use Rattle.engine_theory.specs.Ranges.{InRange, AnswerInRange}
use Rattle.engine_theory.specs.Evaluation.{answer_by, answer_of}
use Rattle.engine_theory.proofs.Laws.{promised, in_range}
use Rattle.engine_theory.proofs.FlatLaws.{none_enclose}
use Rattle.millionths_theory.specs.Promise.{MillionthsAnswer, widest, Convertible, MillionthsPromise}
use Rattle.millionths_theory.specs.Evaluation.{in_millionths, millionths_of}
use Rattle.millionths_theory.proofs.Conversion.{converts}

by_row : (m : Limits) (T w : ℕ) → 2 * w ≤ widest → width_at m T w ≤ widest
by_row m T w h = by_test (has_row m T) (λ v. v ≤ widest) (λ _. omega arith) (λ _. h)

no_wider : (s : Scenario) → median_width s ≤ widest
unfolding median_width
no_wider s =
    by_test (eqb s.model 1) (λ v. v ≤ widest) (λ _. by_row idriss s.period idriss_width (omega arith))
    (λ _. by_row boore_atkinson s.period boore_atkinson_width (omega arith))

convertible : (s : Scenario) (e : Enclosure ℤ) → InRange e.median → EnclosesBoth s (shown_ends (Ok e)) →
    Convertible (median s) e.median
convertible s e inside b =
    let low : e.median.low ≡ b.median_low = ap (λ l. get_or l 0 (pos 0)) b.four in
    let high : e.median.high ≡ b.median_high = ap (λ l. get_or l 1 (pos 0)) b.four in
    let m = rw (← low, ← high) at b.median_enclosed in
    record {
      encloses = m.encloses;
      narrow = within_more e.median.high e.median.low (median_width s) widest (no_wider s) m.narrow;
      few = inside.reaches.most;
    }

module _ {k : ℕ} {s : Scenario} where
  pub in_millionths_lem : (a : Answer) → AnswerInRange a → AnswerPromise k s a → MillionthsPromise k s (in_millionths a)
  unfolding in_millionths
  in_millionths_lem (Ok e) inside p = record {
    number = p.number;
    between = λ z. record {
      a = _;
      b = _;
      two = refl;
      bounds = converts e.median (convertible s e inside (p.enclosed z));
    };
    refused = λ h. absurd (h (sym p.number));
  }
  in_millionths_lem (Err r) inside p =
      record { number = p.number; between = λ z. absurd (none_enclose (p.enclosed z)); refused = λ _. refl }

-- every answer of which a contract says `r ≡ millionths_of s` keeps the promise
pub answers : {r : MillionthsAnswer} (s : Scenario) → r ≡ millionths_of s →
    (r ≡ millionths_of s) × MillionthsPromise (refusal_of s) s r
unfolding millionths_of answer_of
answers s e =
    let k = refusal_of s in
    (e, rw e (in_millionths_lem (answer_by k s) (in_range s k (λ z. z)) (promised s k (λ z. z) (refusal_numbered s))))
