-- Writing undoes reading: the record of a scenario that is read is what it was read from.
use mathlib.Core.Path.{◌≡◌, refl, sym}
use mathlib.Core.Bool.{Bool, true, false, not, cond, ◌&&◌, ◌||◌}
use mathlib.Core.List.{List, [], ◌∷◌, map}
use Rattle.std.specs.Prelude.{Option, Some, None}
use Prim.Native.Nat.{ℕ, ◌+◌, ◌≤◌, ◌<◌}
use native.Mathlib.Omega.{arith}
use lib.ListN.{length, take, drop, length-drop}
use lib.Seq.{take-add}
use Rattle.scenario_theory.specs.declared.Scenario.{Scenario}
use Rattle.scenario_theory.specs.Distances.{is_absent}
use Rattle.scenario_theory.proofs.DistanceLaws.{rupture_number_lem, projection_number_lem}
use Rattle.record_theory.specs.Layout.{absent_velocity, absent_mechanism, absent_period, Bytes, Field, layout}
use Rattle.record_theory.specs.Layout.{scenario_of, stands, number_of, size_of, numbers_of, absent_written}
use Rattle.record_theory.specs.Layout.{part_of, parts_of, record_of}
use Rattle.record_theory.specs.Outcome.{map_in, scenario_in, length_by, map_refusal}
use Rattle.record_theory.proofs.AbsentLaws.{or_unless}
use Rattle.record_theory.proofs.ByteLaws.{bytes_drop, bytes_back}
use Rattle.record_theory.proofs.MapLaws.{passed, map_small}
use Rattle.record_theory.proofs.ReadingLaws.{Accepted}
use Rattle.record_theory.proofs.Agreement.{Agree, map_agrees}

-- ---- the fields

-- what is read of a distance is not absent where its bit stands, so others follow it
distance_left : (b : Bool) (x : ℕ) (others : Bool) →
    ((is_absent (cond b (Some x) None) && b) || others) ≡ false → others ≡ false
distance_left true x others e = e
distance_left false x others e = e

-- what is written of a scenario that is read is what was read
written_read : (m : ℕ) (s : List ℕ) → map_refusal m ≡ 0 →
    absent_written layout m (scenario_of (numbers_of layout m s)) ≡ false →
    map (λ f. f.written (scenario_of (numbers_of layout m s))) layout ≡ numbers_of layout m s
unfolding numbers_of absent_written
written_read m s e a =
    let p = passed m e in
    let others = distance_left (stands 2 m) _ _ (rw rupture_number_lem at a) in
    let velocity = or_unless (stands 3 m) _ absent_velocity _ others in
    let mechanism = or_unless (stands 4 m) _ absent_mechanism _ velocity.1 in
    let period = or_unless (stands 5 m) _ absent_period _ mechanism.1 in
    rw (velocity.0, mechanism.0, period.0, p.model, p.magnitude, rupture_number_lem, projection_number_lem) refl

-- a field that was read: its bit agrees, and it is written as the bytes that it was read from
kept : (w : ℕ) (o : Option ℕ) (b : Bool) (s : List ℕ) → o ≡ cond b (Some (number_of (take w s))) None → Bytes s →
    cond b w 0 ≤ length s → (b ≡ not (is_absent o)) × (part_of w o ≡ take (cond b w 0) s)
kept w o true s e h l = (rw e refl, rw e (bytes_back w s h l))
kept w o false s e h l = (rw e refl, rw e refl)

-- and all of them
all_kept : (fs : List Field) (m : ℕ) (x : Scenario) (s : List ℕ) → map (λ f. f.written x) fs ≡ numbers_of fs m s →
    Bytes s → size_of fs m ≤ length s → Agree fs m x × (parts_of fs x ≡ take (size_of fs m) s)
unfolding numbers_of size_of parts_of
all_kept [] m x s e h l = (tt, refl)
all_kept (f ∷ fs) m x s e h l =
    let n = cond (stands f.bit m) f.width 0 in
    let room : size_of fs m ≤ length (drop n s) = simp length-drop (omega arith) in
    let k = kept f.width (f.written x) (stands f.bit m) s (cc) h (omega arith) in
    let ih = all_kept fs m x (drop n s) (cc) (bytes_drop n s h) room in
    ((k.0, ih.0), rw (k.1, ih.1) (sym (take-add n (size_of fs m) s)))

-- ---- the record

front : (n : ℕ) (s : List ℕ) → 0 < length s → take (1 + n) s ≡ map_in s ∷ take n (drop 1 s)
front n [] h = absurd (omega arith)
front n (m ∷ s) h = take-add 1 n (m ∷ s)

pub record_read : (s : List ℕ) → Bytes s → Accepted s → record_of (scenario_in s) ≡ take (length_by (map_in s)) s
unfolding record_of length_by scenario_in
record_read s h a =
    let m = map_in s in
    let x = scenario_in s in
    let e = a.front.passes in
    let room : size_of layout m ≤ length (drop 1 s) = simp length-drop (omega arith) in
    let k = all_kept layout m x (drop 1 s) (written_read m (drop 1 s) e a.apart) (bytes_drop 1 s h) room in
    rw (map_agrees m x k.0 (map_small m (h 0) e), k.1) (sym (front (size_of layout m) s (omega arith)))
