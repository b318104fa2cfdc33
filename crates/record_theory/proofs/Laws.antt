-- Reading and writing undo each other, for all scenarios and all bytes. Demand 2: "A record is read as the scenario its
-- layout gives, an accepted scenario is written as its one record, and each undoes the other".
use mathlib.Core.Path.{◌≡◌, refl, sym, ap, ◌∙◌}
use mathlib.Core.Bool.{Bool, true, false, cond}
use mathlib.Core.List.{List, ◌++◌}
use mathlib.Core.Logic.{⊎_elim}
use Rattle.std.specs.Prelude.{Some, None, Ok}
use Prim.Native.Nat.{ℕ, ◌≤◌}
use native.Mathlib.Omega.{arith}
use lib.ListN.{length, take, drop}
use lib.Seq.{length-take-le}
use Rattle.scenario_theory.specs.declared.Scenario.{Scenario}
use Rattle.scenario_theory.specs.Distances.{rupture_number}
use Rattle.scenario_theory.specs.Refusal.{refusal_of}
use Rattle.scenario_theory.proofs.DistanceLaws.{rupture_number_lem, projection_number_lem}
use Rattle.scenario_theory.proofs.RefusalLaws.{Below, of_model}
use Rattle.record_theory.specs.Layout.{Bytes, stands, record_of}
use Rattle.record_theory.specs.Outcome.{map_in, scenario_in, length_by, map_refusal, read_of, rest_of, write_of}
use Rattle.record_theory.specs.Outcome.{lent_after}
use Rattle.record_theory.proofs.FieldLaws.{length_is, scenario_is}
use Rattle.record_theory.proofs.ReadBack.{read_written, rest_written}
use Rattle.record_theory.proofs.ReadingLaws.{read_as}
use Rattle.record_theory.proofs.RecordBytes.{record_bytes}
use Rattle.record_theory.proofs.WriteBack.{record_read}
use Rattle.record_theory.proofs.WritingLaws.{is_written, written_as}

-- ---- an accepted scenario has a record: bytes, read as the scenario whatever follows them, and written where they fit

module _ (x : Scenario) (e : refusal_of x ≡ 0) where
  -- no check bounds a rupture distance that the model does not read, but it is the number of a u16
  pub record_is_bytes : Below 65_536 (rupture_number x.rupture) → Bytes (record_of x)
  record_is_bytes = record_bytes x e

  pub record_is_read : (s : List ℕ) → read_of (record_of x ++ s) ≡ Ok (x, length (record_of x))
  record_is_read s = read_written x s e

  pub record_is_written : (lent : List ℕ) → length (record_of x) ≤ length lent →
      (write_of x lent ≡ Ok (length (record_of x))) ×
      (lent_after x lent ≡ record_of x ++ drop (length (record_of x)) lent)
  record_is_written lent l = let w = is_written x lent e refl l refl in (sym w.0, sym w.1.1)

-- ---- what is written is read back as the scenario, and the rest is untouched

module _ (x : Scenario) (lent : List ℕ) (n : ℕ) (e : write_of x lent ≡ Ok n) where
  pub written_is_read : read_of (lent_after x lent) ≡ Ok (x, n)
  written_is_read =
      let w = written_as x lent n e in
      rw (w.bytes, read_written x (drop n lent) w.accepted, w.size) refl

  pub later_is_rest : rest_of (lent_after x lent) ≡ drop n lent
  later_is_rest = let w = written_as x lent n e in rw w.bytes (rest_written x (drop n lent) w.accepted)

-- ---- what is read is an accepted scenario, and is written as exactly the bytes that were read

module _ (s : List ℕ) (h : Bytes s) (x : Scenario) (n : ℕ) (e : read_of s ≡ Ok (x, n)) where
  pub read_is_accepted : refusal_of x ≡ 0
  read_is_accepted = let r = read_as s x n e in rw r.scenario at r.passes.taken

  pub read_is_record : record_of x ≡ take n s
  read_is_record = let r = read_as s x n e in rw (← r.scenario, ← r.size) (record_read s h r.passes)

  record_size : length (record_of x) ≡ n
  record_size = let r = read_as s x n e in ap length read_is_record ∙ length-take-le n s (omega arith)

  pub read_is_written : (lent : List ℕ) → n ≤ length lent →
      (write_of x lent ≡ Ok n) × (lent_after x lent ≡ take n s ++ drop n lent)
  read_is_written lent l =
      let w = is_written x lent read_is_accepted (sym record_size) l refl in
      (sym w.0, sym (rw (record_size, read_is_record) at w.1.1))

-- ---- a record that is read has six bytes or more, one of its distances among them, and is within the bytes

-- what is read by its bit has two bytes where it stands
two_bytes : (b : Bool) (x : ℕ) {d : ℕ} → cond b (Some x) None ≡ Some d → ◌≡◌ {A = ℕ} (cond b 2 0) 2
two_bytes true x e = refl
two_bytes false x e = let z : ◌≡◌ {A = ℕ} 0 1 = cc in absurd (omega arith)

record_long : (s : List ℕ) → map_refusal (map_in s) ≡ 0 → refusal_of (scenario_in s) ≡ 0 → 6 ≤ length_by (map_in s)
record_long s e f =
    let m = map_in s in
    ⊎_elim
    (λ p.
    let d = rw (scenario_is s e, rupture_number_lem) at p.1.reads in
    omega (arith, length_is m e, two_bytes (stands 2 m) _ d))
    (λ p.
    let d = rw (scenario_is s e, projection_number_lem) at p.1.reads in
    omega (arith, length_is m e, two_bytes (stands 6 m) _ d)) (of_model (scenario_in s) f)

pub read_size : (s : List ℕ) (x : Scenario) (n : ℕ) → read_of s ≡ Ok (x, n) → (6 ≤ n) × (n ≤ length s)
read_size s x n e =
    let r = read_as s x n e in
    let front = r.passes.front in
    (omega (arith, record_long s front.passes r.passes.taken), omega arith)

-- ---- and so an accepted scenario has one record: any bytes that are read as it are those

pub one_record : (s t : List ℕ) → Bytes s → Bytes t → (x : Scenario) (n k : ℕ) → read_of s ≡ Ok (x, n) →
    read_of t ≡ Ok (x, k) → take n s ≡ take k t
one_record s t h g x n k e f = sym (read_is_record s h x n e) ∙ read_is_record t g x k f
