-- The promises of what C is told follow from the engine's.
use mathlib.Core.Path.{◌≡◌, refl, sym}
use mathlib.Core.List.{List}
use mathlib.Core.Logic.{inl, inr}
use Prim.Native.Nat.{ℕ, ◌≤◌}
use native.Mathlib.Omega.{arith}
use lib.IntN.{pos}
use lib.Ieee.{of_bits, of_int}
use Rattle.std.specs.Prelude.{Option, Some, None, Ok, Err}
use Rattle.scenario_theory.specs.declared.Scenario.{Scenario}
use Rattle.scenario_theory.specs.Distances.{rupture_number, projection_number}
use Rattle.scenario_theory.specs.Refusal.{refusal_of}
use Rattle.scenario_theory.proofs.NumberLaws.{numbered}
use Rattle.scenario_theory.proofs.DistanceLaws.{rupture_of_lem, projection_of_lem}
use Rattle.record_theory.specs.Outcome.{scenario_in, read_refusal, read_of, write_refusal, write_of}
use Rattle.record_theory.specs.Outcome.{lent_after}
use Rattle.record_theory.proofs.ReadingLaws.{read_numbered}
use Rattle.record_theory.proofs.WritingLaws.{write_numbered}
use Rattle.scenario_theory.proofs.CheckLaws.{by_number}
use Rattle.engine_theory.specs.Promise as engine
use Rattle.engine_theory.specs.Evaluation.{SmallAnswer, answer_by, doubles_of, in_doubles}
use Rattle.engine_theory.specs.Flat.{told}
use Rattle.engine_theory.proofs.Exact.{equals}
use Rattle.engine_theory.proofs.Laws.{promised, small, in_doubles_lem}
use Rattle.engine_theory.proofs.FlatLaws.{told_promised}
use Rattle.host_theory.specs.declared.HostDoubles.{HostDoubles}
use Rattle.host_theory.specs.declared.HostReading.{HostReading}
use Rattle.host_theory.specs.declared.HostWriting.{HostWriting}
use Rattle.host_theory.specs.Told.{flagged, flagged_of, scenario_from, fields_of}
use Rattle.host_theory.specs.Told.{told_doubles, told_reading, told_writing, zero_double}
use Rattle.host_theory.specs.Promise.{HostDoublesPromise, PlainFlag, HostReadingPromise, HostWritingPromise}

zero_equals : engine.Equals zero_double (pos 0)
unfolding of_bits of_int
zero_equals = equals (pos 0) (omega arith)

told_equal : {k : ℕ} {s : Scenario} (a : engine.Answer) → SmallAnswer a → engine.AnswerPromise k s a →
    HostDoublesPromise k s (told a) (told_doubles (in_doubles a))
unfolding in_doubles doubles_of
told_equal (Ok e) h p =
    record { whole = told_promised (Ok e) p; number = refl; equal = (in_doubles_lem (Ok e) h p).values }
told_equal (Err r) h p =
    record { whole = told_promised (Err r) p; number = refl; equal = search zero_equals }

module _ (s : Scenario) (k : ℕ) (accepted : k ≡ 0 → refusal_of s ≡ 0) (few : k ≤ 15) where
  pub doubles_answers : {d : HostDoubles} → d ≡ told_doubles (in_doubles (answer_by k s)) →
      (d ≡ told_doubles (in_doubles (answer_by k s))) × HostDoublesPromise k s (told (answer_by k s)) d
  doubles_answers e = (e, rw e (told_equal (answer_by k s) (small s k accepted) (promised s k accepted few)))

-- ---- reading and writing

-- a distance by the flag that it is told with is that distance
flag_back : (o : Option ℕ) → flagged (flagged_of o).present (flagged_of o).distance ≡ o
flag_back None = refl
flag_back (Some x) = refl

plain : (o : Option ℕ) → PlainFlag (flagged_of o).present (flagged_of o).distance
plain None = inl (refl, refl)
plain (Some x) = inr refl

-- so the fields of a scenario are those of that scenario
fields_back : (x : Scenario) → scenario_from (fields_of x) ≡ x
fields_back x =
    rw (
      flag_back (rupture_number x.rupture),
      flag_back (projection_number x.projection),
      rupture_of_lem,
      projection_of_lem,
    )
    refl

-- every reading of which the contract says `r ≡ ..` keeps the promise
pub reads : {r : HostReading} (s : List ℕ) → r ≡ told_reading (read_of s) →
    (r ≡ told_reading (read_of s)) × HostReadingPromise s r
unfolding read_of
reads s e =
    let p = by_number (λ r. HostReadingPromise s (told_reading r)) (read_refusal s)
    (λ z. record {
      number = sym z;
      scenario = λ h. fields_back (scenario_in s);
      rupture = plain (rupture_number (scenario_in s).rupture);
      projection = plain (projection_number (scenario_in s).projection);
      length = λ h. refl;
      zeros = λ h. absurd (h z);
    })
    (λ n. record {
      number = numbered (read_refusal s) n (read_numbered s);
      scenario = λ h. absurd (n h);
      rupture = inl (refl, refl);
      projection = inl (refl, refl);
      length = λ h. absurd (n h);
      zeros = λ h. (refl, refl);
    }) in
    (e, rw e p)

pub writes : {r : HostWriting} {after : List ℕ} (x : Scenario) (lent : List ℕ) → r ≡ told_writing (write_of x lent) →
    after ≡ lent_after x lent →
    (r ≡ told_writing (write_of x lent)) × (HostWritingPromise x lent r × (after ≡ lent_after x lent))
unfolding write_of
writes x lent e f =
    let p = by_number (λ r. HostWritingPromise x lent (told_writing r)) (write_refusal x lent)
    (λ z. record { number = sym z; written = λ h. refl; zero = λ h. absurd (h z) })
    (λ n. record {
      number = numbered (write_refusal x lent) n (write_numbered x lent);
      written = λ h. absurd (n h);
      zero = λ h. refl;
    }) in
    (e, (rw e p, f))
