-- What reading answers, check by check, and what an answer says of the bytes.
use mathlib.Core.Path.{◌≡◌, refl, sym, ap, subst, ◌∙◌}
use mathlib.Core.Bool.{true, false}
use mathlib.Core.List.{List, []}
use Prim.Native.Nat.{ℕ, zero, suc, ◌≤◌}
use native.Mathlib.Omega.{arith}
use borrow.Author.Tests.{ltb-false}
use lib.Dec.{eqb}
use lib.ListN.{length, drop}
use Rattle.std.specs.Prelude.{Result, Ok, Err, ltb}
use Rattle.scenario_theory.specs.declared.Scenario.{Scenario}
use Rattle.scenario_theory.specs.declared.Basis.{Basis}
use Rattle.scenario_theory.specs.declared.Refusal.{Refusal}
use Rattle.scenario_theory.specs.declared.Refusal.TheVariants as E
use Rattle.scenario_theory.specs.Checks.{◌when◌, ◌otherwise◌, unless_refused}
use Rattle.scenario_theory.specs.Refusal.{refusal_of}
use Rattle.scenario_theory.specs.Numbers.{check_with, refusal_number, with_number}
use Rattle.scenario_theory.specs.Accepted.{basis_of, check_of, RestsOn}
use Rattle.scenario_theory.proofs.CheckLaws.{is_first, first_of_three, none_of, not_when}
use Rattle.scenario_theory.proofs.CheckLaws.{is_refused, by_number, of_unless}
use Rattle.scenario_theory.proofs.CheckedLaws.{based}
use Rattle.scenario_theory.proofs.NumberLaws.{numbered, number_when, number_otherwise, refusal_numbered}
use Rattle.record_theory.specs.Layout.{layout, absent_written}
use Rattle.record_theory.specs.Outcome.{map_in, scenario_in, length_by, map_refusal, read_refusal, read_of, rest_at}
use Rattle.record_theory.specs.Outcome.{rest_of, reading_number, reading_values, ReadPromise}
use Rattle.record_theory.specs.Steps.{front_refusal, field_refusal, field_check, BasedReading}
use Rattle.record_theory.specs.Steps.{based_reading, based_reading_of, reading_in, Complete}
use Rattle.record_theory.proofs.MapLaws.{map_numbered}

-- ---- a check of a program answers by its number

pub passes : (k : ℕ) → check_with k ≡ Ok tt → k ≡ 0
passes zero e = refl
passes (suc k) e = let z : ◌≡◌ {A = ℕ} 0 1 = cc in absurd (omega arith)

pub fails : (k : ℕ) {e : Refusal} → check_with k ≡ Err e → (k ≡ 0 → ⊥) × (with_number k ≡ e)
fails zero q = let z : ◌≡◌ {A = ℕ} 0 1 = cc in absurd (omega arith)
fails (suc k) q = (λ z. absurd (omega arith), cc)

-- the first of two that fails
pub first_fails : (j k : ℕ) {e : Refusal} → check_with j ≡ Err e → Err e ≡ check_with (j otherwise k)
first_fails zero k q = let z : ◌≡◌ {A = ℕ} 0 1 = cc in absurd (omega arith)
first_fails (suc j) k q = sym q

-- ---- the number of reading is one of document 01's

pub read_numbered : (s : List ℕ) → read_refusal s ≤ 15
unfolding read_refusal
read_numbered s =
    number_otherwise _ _ (number_when 7 (eqb (length s) 0) (omega arith))
    (number_otherwise _ _ (map_numbered (map_in s))
    (number_otherwise _ _ (number_when 7 (ltb (length s) (length_by (map_in s))) (omega arith))
    (number_otherwise _ _ (number_when 11 (absent_written layout (map_in s) (scenario_in s)) (omega arith))
    (refusal_numbered (scenario_in s)))))

-- ---- the checks in two parts, as the program makes them

in_two : (s : List ℕ) → (front_refusal s otherwise field_refusal (map_in s) (scenario_in s)) ≡ read_refusal s
unfolding front_refusal field_refusal read_refusal
in_two s = simp first_of_three refl

pub front_passes : (s : List ℕ) → front_refusal s ≡ 0 → Complete s
unfolding front_refusal
front_passes s e =
    let a = none_of (7 when eqb (length s) 0) _ e in
    let b = none_of (map_refusal (map_in s)) _ a.1 in
    record { passes = b.0; room = ltb-false (length s) (length_by (map_in s)) (not_when 6 _ b.1) }

-- s passes every check
pub record Accepted (s : List ℕ) : Type 0 where
  pub front : Complete s
  pub apart : absent_written layout (map_in s) (scenario_in s) ≡ false
  pub taken : refusal_of (scenario_in s) ≡ 0

pub accepted : (s : List ℕ) → read_refusal s ≡ 0 → Accepted s
unfolding field_refusal
accepted s e =
    let a = none_of (front_refusal s) (field_refusal (map_in s) (scenario_in s)) (in_two s ∙ e) in
    let b = none_of (11 when absent_written layout (map_in s) (scenario_in s)) _ a.1 in
    record { front = front_passes s a.0; apart = not_when 10 _ b.0; taken = b.1 }

-- the checks of the fields: a number that is written out, and then those of the scenario
module _ (m : ℕ) (x : Scenario) where
  written_out : absent_written layout m x ≡ true → Err E.DefaultWritten ≡ field_check m x
  unfolding field_check field_refusal
  written_out e = rw e refl

  not_written_out : {c : Result Basis Refusal} → absent_written layout m x ≡ false → c ≡ check_of x →
      c ≡ field_check m x
  unfolding field_check field_refusal check_of
  not_written_out e h = rw e h

-- ---- the answers of reading with what an answer rests on

module _ (s : List ℕ) where
  refused : (k : ℕ) → k ≡ read_refusal s → (k ≡ 0 → ⊥) → Err (with_number k) ≡ based_reading_of s
  unfolding based_reading_of
  refused k e h = rw (← e) (is_refused k _ (Err (with_number k)) h)

  pub front_fails : {e : Refusal} → check_with (front_refusal s) ≡ Err e → Err e ≡ based_reading_of s
  front_fails q =
      let f = fails (front_refusal s) q in
      ap Err (sym f.1) ∙ refused (front_refusal s) (is_first (front_refusal s) _ f.0 ∙ in_two s) f.0

  -- the checks of the front pass, and x is the scenario that is read
  module _ {x : Scenario} (front : check_with (front_refusal s) ≡ Ok tt) (is : x ≡ scenario_in s) where
    numbers : field_refusal (map_in s) x ≡ read_refusal s
    numbers = let front = passes (front_refusal s) front in rw is (rw front at (in_two s))

    fields : based_reading x (length_by (map_in s)) (field_check (map_in s) x) ≡ based_reading_of s
    unfolding field_check based_reading_of
    fields =
        rw (← numbers, ← is)
        (of_unless (based_reading x (length_by (map_in s))) (field_refusal (map_in s) x) (basis_of x) _)

    pub default_fails : absent_written layout (map_in s) x ≡ true → Err E.DefaultWritten ≡ based_reading_of s
    default_fails e = rw (← written_out (map_in s) x e) at fields

    module _ (apart : absent_written layout (map_in s) x ≡ false) where
      pub check_fails : {e : Refusal} → check_of x ≡ Err e → Err e ≡ based_reading_of s
      check_fails e = rw (← not_written_out (map_in s) x apart (sym e)) at fields

      pub is_read : {b : Basis} → check_of x ≡ Ok b → Ok (x, length_by (map_in s), b) ≡ based_reading_of s
      is_read e = rw (← not_written_out (map_in s) x apart (sym e)) at fields

  -- ---- the contract of reading: that left out

  forgotten : reading_in (based_reading_of s) ≡ read_of s
  unfolding based_reading_of read_of
  forgotten = go (read_refusal s) refl
    where
      go : (k : ℕ) → read_refusal s ≡ k →
          reading_in (unless_refused k (based_reading (scenario_in s) (length_by (map_in s)) (basis_of (scenario_in s)))
          (Err (with_number k))) ≡
          unless_refused k (Ok (scenario_in s, length_by (map_in s))) (Err (with_number k))
      go zero e = rw (based (scenario_in s) (accepted s e).taken).is refl
      go (suc k) e = refl

  read_promise : ReadPromise s (read_of s)
  unfolding read_of
  read_promise = record {
    number =
        by_number (λ r. reading_number r ≡ read_refusal s) (read_refusal s) sym
        (λ n. numbered (read_refusal s) n (read_numbered s));
    values = of_unless reading_values (read_refusal s) _ _;
  }

  pub read_of_lem : {t : BasedReading} → based_reading_of s ≡ t → (reading_in t ≡ read_of s) ×
      ReadPromise s (reading_in t)
  read_of_lem e = let f = ap reading_in (sym e) ∙ forgotten in (f, rw f read_promise)

-- ---- what an answer says

ok_is : {A : Type 0} {x y : A} → ◌≡◌ {A = Result A Refusal} (Ok x) (Ok y) → x ≡ y
ok_is e = cc

-- s is read as x, a record of n bytes
pub record ReadAs (s : List ℕ) (x : Scenario) (n : ℕ) : Type 0 where
  pub number : read_refusal s ≡ 0
  pub passes : Accepted s
  pub scenario : scenario_in s ≡ x
  pub size : length_by (map_in s) ≡ n
  pub place : rest_at s ≡ n
  pub rest : rest_of s ≡ drop n s

pub read_as : (s : List ℕ) (x : Scenario) (n : ℕ) → read_of s ≡ Ok (x, n) → ReadAs s x n
unfolding read_of rest_at rest_of
read_as s x n e =
    by_number (λ r. r ≡ Ok (x, n) → ReadAs s x n) (read_refusal s)
    (λ p q.
    let same = ok_is q in
    let size = ap (λ r. r.1) same in
    record {
      number = p;
      passes = accepted s p;
      scenario = ap (λ r. r.0) same;
      size = size;
      place = rw (p, size) refl;
      rest = rw (p, size) refl;
    })
    (λ p q. let z : ◌≡◌ {A = ℕ} 0 1 = cc in absurd (omega arith)) e

-- s is refused with k, which is not 0
pub record NotRead (s : List ℕ) (e : Refusal) : Type 0 where
  pub number : read_refusal s ≡ refusal_number e
  pub reason : with_number (read_refusal s) ≡ e
  pub some : read_refusal s ≡ 0 → ⊥
  pub place : rest_at s ≡ 0
  pub rest : rest_of s ≡ []

pub not_read : (s : List ℕ) (e : Refusal) → read_of s ≡ Err e → NotRead s e
unfolding read_of rest_at rest_of
not_read s e =
    by_number (λ r. r ≡ Err e → NotRead s e) (read_refusal s)
    (λ p q. let z : ◌≡◌ {A = ℕ} 0 1 = cc in absurd (omega arith))
    (λ p q. let same : with_number (read_refusal s) ≡ e = cc in
    record {
      number = sym (numbered (read_refusal s) p (read_numbered s)) ∙ ap refusal_number same;
      reason = same;
      some = p;
      place = sym (is_refused (read_refusal s) _ _ p);
      rest = sym (is_refused (read_refusal s) _ _ p);
    })

-- ---- what reading with what an answer rests on says

pub record BasedRead (s : List ℕ) (x : Scenario) (n : ℕ) (b : Basis) : Type 0 where
  pub read : read_of s ≡ Ok (x, n)
  pub rests : RestsOn x b

pub based_read : (s : List ℕ) {x : Scenario} {n : ℕ} {b : Basis} → based_reading_of s ≡ Ok (x, n, b) →
    BasedRead s x n b
unfolding based_reading_of
based_read s {x} {n} {b} e =
    let rests = by_number (λ r. r ≡ Ok (x, n, b) → RestsOn x b) (read_refusal s)
    (λ p q.
    let d = based (scenario_in s) (accepted s p).taken in
    let same = ok_is (rw d.is at q) in
    subst (λ y. RestsOn y b) (ap (λ r. r.0) same) (subst (RestsOn (scenario_in s)) (ap (λ r. r.2) same) d.known))
    (λ p q. let z : ◌≡◌ {A = ℕ} 0 1 = cc in absurd (omega arith)) e in
    record { read = sym (read_of_lem s e).0; rests = rests }
