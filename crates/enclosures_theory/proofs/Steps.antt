-- The loop over the records keeps what is said of it, and ends with all lines but the last.
use mathlib.Core.Path.{◌≡◌}
use mathlib.Core.List.{List, [], ◌∷◌, ◌++◌, append_assoc}
use Prim.Native.Nat.{ℕ, ◌+◌, ◌*◌, ◌≤◌, ◌<◌}
use native.Mathlib.Omega.{arith}
use lib.ListN.{length, drop, length-append, length-drop}
use Rattle.record_theory.proofs.Laws.{read_size}
use lib.IntN.{ℤ}
use Rattle.std.specs.Prelude.{Ok, Err}
use Rattle.scenario_theory.specs.declared.Refusal.{Refusal}
use Rattle.engine_theory.specs.Promise.{Answer}
use Rattle.engine_theory.specs.declared.Enclosure.{Enclosure}
use Rattle.engine_theory.specs.Evaluation.{next_of}
use Rattle.engine_theory.proofs.RecordLaws.{next_read, next_not_read}
use Rattle.report_theory.specs.Lines.{line_of}
use Rattle.report_theory.proofs.LineLaws.{line_most_lem}
use Rattle.enclosures_theory.specs.Sizes.{bytes_taken, line_most}
use Rattle.enclosures_theory.specs.Output.{ended}
use Rattle.enclosures_theory.specs.Steps.{Going, Gone}
use Rattle.enclosures_theory.proofs.OutputLaws.{lines_end, one_read, one_refused}

-- a line with its end
ended_most : (position : ℕ) (a : Answer) → length (ended (line_of position a)) ≤ line_most
ended_most position a = omega (arith, line_most_lem position a, length-append (line_of position a) (10 ∷ []))

-- a record that is read takes six bytes or more of those that are left
pub taken : (rest : List ℕ) {n : ℕ} {a : Enclosure ℤ} → next_of rest ≡ Ok (a, n) → (6 ≤ n) × (n ≤ length rest)
taken rest e = read_size rest _ _ (next_read rest e).read

module _ {front s put rest : List ℕ} {count : ℕ} (g : Going front s put rest count) (some : 0 < length rest) where
  pub read_step : {put' rest' : List ℕ} {n : ℕ} {a : Enclosure ℤ} → next_of rest ≡ Ok (a, n) → rest' ≡ drop n rest →
      put' ≡ put ++ ended (line_of (count + 1) (Ok a)) → Going front s put' rest' (count + 1)
  read_step {n = n} {a} e left more =
      let r = next_read rest e in
      let size = taken rest e in
      let line = one_read count rest _ n some r.read in
      record {
        lines = rw left (omega (arith, length-drop n rest));
        size = rw (more, length-append) (omega (arith, ended_most (count + 1) (Ok a)));
        bytes = rw (more, left, append_assoc, r.answer, ← line) g.bytes;
      }

  pub refused_step : {put' : List ℕ} {r : Refusal} → length s ≤ bytes_taken → next_of rest ≡ Err r →
      put' ≡ put ++ ended (line_of (count + 1) (Err r)) → Gone front s (count + 1) put'
  refused_step {r = r} most e more =
      let line = one_refused count rest r some (next_not_read rest e) in
      record {
        bytes = rw (more, append_assoc, ← line) g.bytes;
        size = rw (more, length-append) (omega (arith, ended_most (count + 1) (Err r)));
      }

pub end_step : {front s put rest : List ℕ} {count : ℕ} → Going front s put rest count → length rest ≡ 0 →
    length s ≤ bytes_taken → Gone front s count put
end_step {rest = []} g none most = record { bytes = rw lines_end at g.bytes; size = omega arith }
end_step {rest = b ∷ rest} g none most = absurd (omega (arith, none))
