-- The promise of an answer, for every scenario, whatever number of a check it is by: demand 3.
use mathlib.Core.Path.{◌≡◌, refl, sym, ap, ◌∙◌}
use mathlib.Core.List.{[], ◌∷◌}
use mathlib.Core.Logic.{⊎_elim}
use Prim.Native.Nat.{ℕ, zero, suc, ◌≤◌}
use native.Mathlib.Omega.{arith}
use Rattle.std.specs.Prelude.{ℤ, Float, Ok, Err}
use Rattle.scenario_theory.specs.declared.Scenario.{Scenario}
use Rattle.scenario_theory.specs.declared.Basis.{Basis}
use Rattle.scenario_theory.specs.declared.Refusal.{Refusal}
use Rattle.scenario_theory.specs.Refusal.{refusal_of}
use Rattle.scenario_theory.specs.Accepted.{check_of}
use Rattle.scenario_theory.proofs.CheckLaws.{is_refused}
use Rattle.scenario_theory.proofs.CheckedLaws.{passed, failed}
use Rattle.scenario_theory.proofs.NumberLaws.{numbered}
use Rattle.scenario_theory.proofs.RefusalLaws.{of_model}
use Rattle.idriss_theory.specs.Sigma.{clamp}
use Rattle.idriss_theory.specs.Evaluation.{sigma_of as idriss_sigma_of}
use Rattle.idriss_theory.proofs.SigmaLaws.{by_clamped}
use Rattle.engine_theory.specs.declared.Enclosure.{Enclosure}
use Rattle.engine_theory.specs.Promise.{Answer, DoublesAnswer, answer_number, AnswerPromise}
use Rattle.engine_theory.specs.Promise.{sigma_values, SameSigma, DoublesPromise}
use Rattle.engine_theory.specs.Ranges.{AnswerInRange}
use Rattle.engine_theory.specs.Evaluation.{idriss_enclosure_of, enclosure_of, answer_by, answer_of, SmallAnswer}
use Rattle.engine_theory.specs.Evaluation.{doubles_of, in_doubles}
use Rattle.engine_theory.specs.Steps.{enclosure_on}
use Rattle.engine_theory.proofs.Exact.{equals}
use Rattle.engine_theory.proofs.ModelLaws.{sound}
use Rattle.engine_theory.proofs.Assembled.{on_basis}

module _ (s : Scenario) where
  -- ---- an answer by the number k of a check that is 0 only where the scenario is accepted

  -- whatever k is: the ends where it is 0, else an answer that has the number
  pub any_answer : {a : Answer} (k : ℕ) → (k ≡ 0 → refusal_of s ≡ 0) → (k ≡ 0 → a ≡ Ok (enclosure_of s)) →
      ((k ≡ 0 → ⊥) → answer_number a ≡ k) → AnswerPromise k s a
  any_answer zero accepted ends number =
      let e = sound s (accepted refl) in
      rw (ends refl) (record {
        number = refl;
        enclosed = λ z. record {
          median_low = _;
          median_high = _;
          sigma_low = _;
          sigma_high = _;
          four = refl;
          median_enclosed = e.median_enclosed;
          sigma_enclosed = e.sigma_enclosed;
        };
        refused = λ h. absurd (h refl);
      })
  any_answer {a = Ok e} (suc k) accepted ends number = absurd (omega (arith, number (λ z. omega arith)))
  any_answer {a = Err r} (suc k) accepted ends number =
      record {
        number = number (λ z. omega arith);
        enclosed = λ z. absurd (omega arith);
        refused = λ h. refl;
      }

  -- by the reason that has the number
  pub promised : (k : ℕ) → (k ≡ 0 → refusal_of s ≡ 0) → k ≤ 15 → AnswerPromise k s (answer_by k s)
  unfolding answer_by
  promised zero accepted few = any_answer zero accepted (λ z. refl) (λ h. refl)
  promised (suc k) accepted few =
      any_answer (suc k) accepted (λ z. absurd (omega arith)) (λ h. numbered (suc k) h few)

  -- every answer of which a contract says `r ≡ answer_by k s` keeps the promise
  pub answers : {r : Answer} (k : ℕ) → (k ≡ 0 → refusal_of s ≡ 0) → k ≤ 15 → r ≡ answer_by k s →
      (r ≡ answer_by k s) × AnswerPromise k s r
  answers k accepted few e = (e, rw e (promised k accepted few))

  pub small : (k : ℕ) → (k ≡ 0 → refusal_of s ≡ 0) → SmallAnswer (answer_by k s)
  unfolding answer_by
  small zero accepted = (sound s (accepted refl)).small
  small (suc k) accepted = tt

  -- every answered median is at most 2.1, and not below −18.1
  pub in_range : (k : ℕ) → (k ≡ 0 → refusal_of s ≡ 0) → AnswerInRange (answer_by k s)
  unfolding answer_by
  in_range zero accepted = (sound s (accepted refl)).in_range
  in_range (suc k) accepted = tt

  -- ---- the two cases of an answer from fields

  pub fields_refused : {r : Refusal} → check_of s ≡ Err r → Err r ≡ answer_of s
  unfolding answer_of answer_by
  fields_refused e = let f = failed s e in ap Err (sym f.reason) ∙ is_refused (refusal_of s) _ _ f.some

  pub fields_enclosed : {b : Basis} {e : Enclosure ℤ} → check_of s ≡ Ok b →
      e ≡ enclosure_on s.magnitude s.velocity s.mechanism s.period b → Ok e ≡ answer_of s
  unfolding answer_of answer_by
  fields_enclosed {b} c same =
      let r = passed s c in rw r.accepted (ap Ok (same ∙ on_basis s b r.basis))

-- ---- of two answers by Idriss

-- sigma's ends go by period and magnitude alone
pub by_period_and_magnitude : (s : Scenario) → s.model ≡ 1 → refusal_of s ≡ 0 →
    let e = idriss_sigma_of s.period s.magnitude in
    sigma_values (answer_of s) ≡ e.low ∷ e.high ∷ []
unfolding answer_of answer_by enclosure_of idriss_enclosure_of
by_period_and_magnitude s model accepted =
    ⊎_elim (λ p. rw (accepted, model, p.1.reads) refl) (λ p. absurd (omega (arith, p.0))) (of_model s accepted)

-- and by these as they are clamped
pub same_sigma : SameSigma answer_of
same_sigma s t s-idriss t-idriss s-accepted t-accepted magnitude periods =
    let period : clamp 50 3_000 s.period ≡ clamp 50 3_000 t.period =
    ⊎_elim (λ p. omega (arith, p.0, p.1)) (λ p. omega (arith, p.0, p.1)) periods in
    let alike : idriss_sigma_of s.period s.magnitude ≡ idriss_sigma_of t.period t.magnitude =
    by_clamped _ _ ∙ rw (period, magnitude) (sym (by_clamped _ _)) in
    rw (by_period_and_magnitude s s-idriss s-accepted, by_period_and_magnitude t t-idriss t-accepted, alike) refl

-- ---- an answer in doubles

pub enclosed_in_doubles : {d : Enclosure Float} {e : Enclosure ℤ} {a : Answer} → d ≡ doubles_of e → Ok e ≡ a →
    Ok d ≡ in_doubles a
unfolding in_doubles
enclosed_in_doubles same e = ap Ok same ∙ ap in_doubles e

pub refused_in_doubles : {r : Refusal} {a : Answer} → Err r ≡ a → Err r ≡ in_doubles a
unfolding in_doubles
refused_in_doubles e = ap in_doubles e

pub in_doubles_lem : {k : ℕ} {s : Scenario} (a : Answer) → SmallAnswer a → AnswerPromise k s a →
    DoublesPromise k s a (in_doubles a)
unfolding in_doubles doubles_of
in_doubles_lem (Ok e) h p = record { whole = p; number = refl; values = search equals }
in_doubles_lem (Err r) h p = record { whole = p; number = refl; values = tt }

pub doubles_answers : {r : DoublesAnswer} (s : Scenario) (k : ℕ) → (k ≡ 0 → refusal_of s ≡ 0) → k ≤ 15 →
    r ≡ in_doubles (answer_by k s) → (r ≡ in_doubles (answer_by k s)) × DoublesPromise k s (answer_by k s) r
doubles_answers s k accepted few e =
    (e, rw e (in_doubles_lem (answer_by k s) (small s k accepted) (promised s k accepted few)))
