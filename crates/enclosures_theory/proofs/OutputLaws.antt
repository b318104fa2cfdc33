-- What is printed after some lines, record by record: the steps that `lines_from` counts never run out.
use mathlib.Core.Path.{◌≡◌, refl, sym, ap}
use mathlib.Core.List.{List, [], ◌∷◌, ◌++◌}
use Prim.Native.Nat.{ℕ, zero, suc, ◌+◌, ◌≤◌, ◌<◌}
use native.Mathlib.Omega.{arith}
use native.Mathlib.Nat.{le_refl}
use lib.ListN.{length, drop, length-drop}
use Rattle.scenario_theory.specs.declared.Scenario.{Scenario}
use Rattle.scenario_theory.specs.Checks.{unless_refused}
use Rattle.scenario_theory.proofs.CheckLaws.{is_refused}
use Rattle.std.specs.Prelude.{Ok, Err}
use Rattle.scenario_theory.specs.declared.Refusal.{Refusal}
use Rattle.record_theory.specs.Outcome.{map_in, scenario_in, length_by, read_refusal, read_of, rest_of}
use Rattle.record_theory.proofs.Laws.{read_size}
use Rattle.record_theory.proofs.ReadingLaws.{read_as, not_read}
use Rattle.engine_theory.specs.Evaluation.{answer_of, record_answer_of}
use Rattle.engine_theory.proofs.RecordLaws.{record_as_fields, record_refused}
use Rattle.report_theory.specs.Lines.{line_of, last_line_of}
use Rattle.enclosures_theory.specs.Output.{ended, lines_from, lines_after}

-- where a record is read, fewer bytes are left
rest_less : (b : ℕ) (s : List ℕ) → read_refusal (b ∷ s) ≡ 0 → length (rest_of (b ∷ s)) ≤ length s
unfolding read_of
rest_less b s e =
    let read : read_of (b ∷ s) ≡ Ok (scenario_in (b ∷ s), length_by (map_in (b ∷ s))) = rw e refl in
    let size = read_size (b ∷ s) _ _ read in
    let rest = (read_as (b ∷ s) _ _ read).rest in
    omega (arith, ap length rest, length-drop (length_by (map_in (b ∷ s))) (b ∷ s))

none_left : (k count : ℕ) → lines_from k count [] ≡ ended (last_line_of count)
unfolding lines_from
none_left zero count = refl
none_left (suc k) count = refl

-- two ways to go on after a record, alike where it is read
alike : (k : ℕ) {l m : List ℕ} (last : List ℕ) → (k ≡ 0 → l ≡ m) → unless_refused k l last ≡ unless_refused k m last
alike zero last same = same refl
alike (suc k) last same = refl

-- any two numbers of steps that are enough print the same
enough : (k j count : ℕ) (s : List ℕ) → length s ≤ k → length s ≤ j → lines_from k count s ≡ lines_from j count s
unfolding lines_from
enough zero j count [] h i = sym (none_left j count)
enough zero j count (b ∷ s) h i = absurd (omega arith)
enough (suc k) j count [] h i = sym (none_left j count)
enough (suc k) zero count (b ∷ s) h i = absurd (omega arith)
enough (suc k) (suc j) count (b ∷ s) h i =
    ap (λ (l : List ℕ). ended (line_of (count + 1) (record_answer_of (b ∷ s))) ++ l)
    (alike (read_refusal (b ∷ s)) _ (λ e.
    enough k j (count + 1) (rest_of (b ∷ s)) (omega (arith, rest_less b s e)) (omega (arith, rest_less b s e))))

-- ---- what is printed after some lines, with no steps counted

-- where no byte is left, the last line
pub lines_end : (count : ℕ) → lines_after count [] ≡ ended (last_line_of count)
unfolding lines_after
lines_end count = none_left 0 count

-- where bytes are left, the line of the record at their front, and then, where it is read, what is printed after one
-- line more for the rest, and where it is refused, the last line
pub lines_step : (count b : ℕ) (bytes : List ℕ) →
    lines_after count (b ∷ bytes)
    ≡ ended (line_of (count + 1) (record_answer_of (b ∷ bytes))) ++
    unless_refused (read_refusal (b ∷ bytes)) (lines_after (count + 1) (rest_of (b ∷ bytes)))
    (ended (last_line_of (count + 1)))
unfolding lines_after lines_from
lines_step count b s =
    ap (λ (l : List ℕ). ended (line_of (count + 1) (record_answer_of (b ∷ s))) ++ l)
    (alike (read_refusal (b ∷ s)) _ (λ e.
    enough (length s) (length (rest_of (b ∷ s))) (count + 1) (rest_of (b ∷ s)) (rest_less b s e) (le_refl _)))

-- ---- the same by what reading answers

pub one_read : (count : ℕ) (s : List ℕ) (x : Scenario) (n : ℕ) → 0 < length s → read_of s ≡ Ok (x, n) →
    lines_after count s ≡ ended (line_of (count + 1) (answer_of x)) ++ lines_after (count + 1) (drop n s)
one_read count [] x n h e = absurd (omega arith)
one_read count (b ∷ s) x n h e =
    let r = read_as (b ∷ s) x n e in
    rw (lines_step count b s, record_as_fields (b ∷ s) x n e, r.number, r.rest) refl

pub one_refused : (count : ℕ) (s : List ℕ) (j : Refusal) → 0 < length s → read_of s ≡ Err j →
    lines_after count s ≡ ended (line_of (count + 1) (Err j)) ++ ended (last_line_of (count + 1))
one_refused count [] j h e = absurd (omega arith)
one_refused count (b ∷ s) j h e =
    let r = not_read (b ∷ s) j e in
    rw (lines_step count b s, ← record_refused (b ∷ s) e, ← is_refused (read_refusal (b ∷ s)) _ _ r.some) refl
