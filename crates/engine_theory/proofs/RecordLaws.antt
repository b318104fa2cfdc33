-- Answers from a record: what is read is accepted, and is answered as from fields.
use mathlib.Core.Path.{◌≡◌, refl, sym, ap, ◌∙◌}
use mathlib.Core.List.{List}
use mathlib.Core.Logic.{⊎_elim}
use Prim.Native.Nat.{ℕ}
use native.Mathlib.Omega.{arith}
use Rattle.std.specs.Prelude.{ℤ, Ok, Err}
use Rattle.scenario_theory.specs.declared.Scenario.{Scenario}
use Rattle.scenario_theory.specs.declared.Refusal.{Refusal}
use Rattle.scenario_theory.specs.declared.Basis.{Basis}
use Rattle.scenario_theory.specs.Refusal.{refusal_of}
use Rattle.scenario_theory.proofs.CheckLaws.{is_refused, unless_is, of_unless}
use Rattle.record_theory.specs.Outcome.{map_in, scenario_in, length_by, read_refusal, read_of, rest_at}
use Rattle.record_theory.specs.Steps.{based_reading_of}
use Rattle.record_theory.proofs.ReadingLaws.{read_numbered, accepted, read_as, not_read, read_of_lem, based_read}
use Rattle.engine_theory.specs.declared.Enclosure.{Enclosure}
use Rattle.engine_theory.specs.Promise.{NextAnswer, answer_in, length_in, NextPromise}
use Rattle.engine_theory.specs.Evaluation.{enclosure_of, answer_by, answer_of, record_answer_of, next_of}
use Rattle.engine_theory.specs.Steps.{enclosure_on}
use Rattle.engine_theory.proofs.Laws.{promised}
use Rattle.engine_theory.proofs.Assembled.{on_basis}

module _ (s : List ℕ) where
  -- a scenario that is read is accepted
  pub read_accepted : read_refusal s ≡ 0 → refusal_of (scenario_in s) ≡ 0
  read_accepted e = (accepted s e).taken

  -- ---- the two cases of an answer with the record's length

  pub next_enclosed : {x : Scenario} {n : ℕ} {b : Basis} {a : Enclosure ℤ} → based_reading_of s ≡ Ok (x, n, b) →
      a ≡ enclosure_on x.magnitude x.velocity x.mechanism x.period b → Ok (a, n) ≡ next_of s
  unfolding next_of
  next_enclosed {x} {n} {b} {a} e same =
      let d = based_read s e in
      let r = read_as s x n d.read in
      let enclosed : a ≡ enclosure_of x = same ∙ on_basis x b d.rests.basis in
      cc

  pub next_refused : {r : Refusal} → based_reading_of s ≡ Err r → Err r ≡ next_of s
  unfolding next_of
  next_refused e =
      let r = not_read s _ (sym (read_of_lem s e).0) in ap Err (sym r.reason) ∙ is_refused (read_refusal s) _ _ r.some

  -- the answer in it is the answer from the record, and its length that of what is read

  same_answer : answer_in (next_of s) ≡ record_answer_of s
  unfolding next_of record_answer_of answer_by
  same_answer = of_unless answer_in (read_refusal s) _ _

  same_length : length_in (next_of s) ≡ rest_at s
  unfolding next_of rest_at
  same_length = of_unless length_in (read_refusal s) _ _

  pub next_answer : {t : NextAnswer} → next_of s ≡ t → answer_in t ≡ record_answer_of s
  next_answer e = ap answer_in (sym e) ∙ same_answer

  -- every answer of which a contract says `r ≡ next_of s` keeps the promise
  pub next_promised : {r : NextAnswer} → r ≡ next_of s → (r ≡ next_of s) × NextPromise s r
  unfolding record_answer_of
  next_promised e = (
    e,
    rw e (record {
      answer = rw same_answer (promised _ _ read_accepted (read_numbered s));
      length = same_length;
    }),
  )

  -- "Answering from a record .. answers the scenario read": as answering from its fields does
  pub record_as_fields : (x : Scenario) (n : ℕ) → read_of s ≡ Ok (x, n) → record_answer_of s ≡ answer_of x
  unfolding record_answer_of answer_of
  record_as_fields x n e = let r = read_as s x n e in cc

  pub record_refused : {r : Refusal} → read_of s ≡ Err r → Err r ≡ record_answer_of s
  unfolding record_answer_of answer_by
  record_refused e = let r = not_read s _ e in ap Err (sym r.reason) ∙ is_refused (read_refusal s) _ _ r.some

  -- ---- what an answer with the record's length says of the bytes

  pub record NextRead (a : Enclosure ℤ) (n : ℕ) : Type 0 where
    pub read : read_of s ≡ Ok (scenario_in s, n)
    pub answer : Ok a ≡ answer_of (scenario_in s)

  pub next_read : {a : Enclosure ℤ} {n : ℕ} → next_of s ≡ Ok (a, n) → NextRead a n
  unfolding next_of read_of answer_of answer_by
  next_read {a} {n} e =
      ⊎_elim
      (λ p.
      let both : ◌≡◌ {A = Enclosure ℤ × ℕ} (enclosure_of (scenario_in s), length_by (map_in s)) (a, n) = cc in
      let same = ap (λ x. x.0) both in
      let size = ap (λ x. x.1) both in
      record { read = rw (p.0, size) refl; answer = rw (read_accepted p.0, same) refl })
      (λ p. let z : ◌≡◌ {A = ℕ} 0 1 = cc in absurd (omega arith))
      (unless_is (read_refusal s) e)

  pub next_not_read : {r : Refusal} → next_of s ≡ Err r → read_of s ≡ Err r
  unfolding next_of read_of
  next_not_read e =
      ⊎_elim (λ p. cc) (λ p. cc (is_refused (read_refusal s) _ _ p.0)) (unless_is (read_refusal s) e)
