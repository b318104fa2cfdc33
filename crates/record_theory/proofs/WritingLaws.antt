-- What writing answers and leaves, check by check.
use mathlib.Core.Path.{◌≡◌, refl, sym}
use mathlib.Core.Logic.{⊎_elim}
use mathlib.Core.List.{List, ◌++◌}
use Prim.Native.Nat.{ℕ, ◌≤◌, ◌<◌}
use native.Mathlib.Omega.{arith}
use borrow.Author.Tests.{lt-ltb, le-ltb}
use lib.ListN.{length, drop}
use Rattle.std.specs.Prelude.{Ok, Err, ltb}
use Rattle.scenario_theory.specs.declared.Scenario.{Scenario}
use Rattle.scenario_theory.specs.declared.Refusal.{Refusal}
use Rattle.scenario_theory.specs.declared.Refusal.TheVariants as E
use Rattle.scenario_theory.specs.Refusal.{refusal_of}
use Rattle.scenario_theory.specs.Numbers.{with_number}
use Rattle.scenario_theory.specs.Accepted.{check_of}
use Rattle.scenario_theory.proofs.CheckLaws.{is_first, none_of, is_refused, by_number, of_unless, unless_is}
use Rattle.scenario_theory.proofs.CheckedLaws.{based}
use Rattle.scenario_theory.proofs.NumberLaws.{numbered, number_when, number_otherwise, refusal_numbered}
use Rattle.record_theory.specs.Layout.{record_of}
use Rattle.record_theory.specs.Outcome.{Writing, write_refusal, write_of, lent_after, writing_number}
use Rattle.record_theory.specs.Outcome.{writing_values, WritePromise}

-- the contract of writing: the answer, the promise and the bytes that are left
abbrev pub Keeps : Scenario → List ℕ → Writing → List ℕ → Type 0
Keeps x lent r after = (r ≡ write_of x lent) × (WritePromise x lent r × (after ≡ lent_after x lent))

module _ (x : Scenario) (lent : List ℕ) where
  pub write_numbered : write_refusal x lent ≤ 15
  unfolding write_refusal
  write_numbered =
      number_otherwise _ _ (refusal_numbered x)
      (number_when 12 (ltb (length lent) (length (record_of x))) (omega arith))

  write_promise : WritePromise x lent (write_of x lent)
  unfolding write_of
  write_promise = record {
    number =
        by_number (λ r. writing_number r ≡ write_refusal x lent) (write_refusal x lent) sym
        (λ n. numbered (write_refusal x lent) n write_numbered);
    values = of_unless writing_values (write_refusal x lent) _ _;
  }

  keeps : {r : Writing} {after : List ℕ} → r ≡ write_of x lent → after ≡ lent_after x lent → Keeps x lent r after
  keeps e f = (e, (rw e write_promise, f))

  -- refused with k: nothing is changed
  refused : (k : ℕ) → k ≡ write_refusal x lent → (k ≡ 0 → ⊥) → Keeps x lent (Err (with_number k)) lent
  unfolding write_of lent_after
  refused k e h = keeps (rw (← e) (is_refused k _ (Err (with_number k)) h)) (rw (← e) (is_refused k _ lent h))

  pub refused_by_fields : {e : Refusal} → check_of x ≡ Err e → Keeps x lent (Err e) lent
  unfolding check_of write_refusal
  refused_by_fields {e} q =
      ⊎_elim (λ p. let d = based x p.0 in let z : ◌≡◌ {A = ℕ} 0 1 = cc in absurd (omega arith))
      (λ p.
      let same : with_number (refusal_of x) ≡ e = cc in
      rw same at (refused (refusal_of x) (is_first (refusal_of x) _ p.0) p.0))
      (unless_is (refusal_of x) q)

  module _ {n : ℕ} (e : refusal_of x ≡ 0) (size : n ≡ length (record_of x)) where
    pub no_room : length lent < n → Keeps x lent (Err E.BufferTooShort) lent
    unfolding write_refusal
    no_room l = refused 12 (rw (e, lt-ltb (length lent) (length (record_of x)) (omega arith)) refl) (λ z. omega arith)

    pub is_written : {after : List ℕ} → n ≤ length lent → after ≡ record_of x ++ drop (length (record_of x)) lent →
        Keeps x lent (Ok n) after
    unfolding write_of lent_after write_refusal
    is_written l f =
        let fits = le-ltb (length lent) (length (record_of x)) (omega arith) in
        keeps (rw (e, fits, size) refl) (rw (e, fits) f)

-- ---- x is written as a record of n bytes

pub record WrittenAs (x : Scenario) (lent : List ℕ) (n : ℕ) : Type 0 where
  pub accepted : refusal_of x ≡ 0
  pub size : length (record_of x) ≡ n
  pub bytes : lent_after x lent ≡ record_of x ++ drop n lent

pub written_as : (x : Scenario) (lent : List ℕ) (n : ℕ) → write_of x lent ≡ Ok n → WrittenAs x lent n
unfolding write_of write_refusal lent_after
written_as x lent n e =
    by_number (λ r. r ≡ Ok n → WrittenAs x lent n) (write_refusal x lent)
    (λ p q. let size : length (record_of x) ≡ n = cc in
    record { accepted = (none_of (refusal_of x) _ p).0; size = size; bytes = rw (p, size) refl })
    (λ p q. let z : ◌≡◌ {A = ℕ} 0 1 = cc in absurd (omega arith)) e
