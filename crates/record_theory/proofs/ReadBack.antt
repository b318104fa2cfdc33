-- Reading undoes writing: the record of an accepted scenario is read as that scenario, and what follows it is the rest.
use mathlib.Core.Path.{◌≡◌, refl, ap, ◌∙◌}
use mathlib.Core.Bool.{not, cond}
use mathlib.Core.List.{List, [], ◌∷◌, ◌++◌, map, append_assoc}
use Rattle.std.specs.Prelude.{Option, Some, None, Ok}
use Prim.Native.Nat.{ℕ, zero, suc, ◌≤◌}
use native.Mathlib.Omega.{arith}
use borrow.Author.Rules.{rules}
use borrow.Author.Tests.{ne_eqb, le-ltb}
use lib.ListN.{length, take, drop, length-append}
use lib.Seq.{take_at, drop_at, drop-append_seam}
use Rattle.scenario_theory.specs.declared.Scenario.{Scenario}
use Rattle.scenario_theory.specs.Distances.{is_absent}
use Rattle.scenario_theory.specs.Refusal.{refusal_of}
use Rattle.scenario_theory.proofs.DistanceLaws.{rupture_of_lem, projection_of_lem}
use Rattle.record_theory.specs.Layout.{Field, layout, number_of, numbers_of, bytes_of, map_of, part_of}
use Rattle.record_theory.specs.Layout.{parts_of, record_of}
use Rattle.record_theory.specs.Outcome.{map_in, scenario_in, length_by, read_refusal, read_of, rest_of}
use Rattle.record_theory.proofs.AbsentLaws.{unless_or}
use Rattle.record_theory.proofs.ByteLaws.{bytes_length, number_back}
use Rattle.record_theory.proofs.Agreement.{Agree, size_agrees, apart_agrees, written_agrees, written_passes}

-- ---- the fields

-- every field has a byte
abbrev Wide : List Field → Type 0
Wide [] = Unit {0}
Wide (f ∷ fs) = (1 ≤ f.width) × Wide fs

layout_wide : Wide layout
layout_wide =
    (search rules, (search rules, (search rules, (search rules, (search rules, (search rules, (search rules, tt)))))))

number_front : (w x : ℕ) (s : List ℕ) → 1 ≤ w → number_of (take w (bytes_of w x ++ s)) ≡ x
number_front zero x s h = absurd (omega arith)
number_front (suc w) x s h =
    ap number_of (take_at (bytes_of (suc w) x) s (suc w) (bytes_length (suc w) x)) ∙ number_back w x

-- the numbers that are read of the fields that are written
numbers_back : (fs : List Field) (m : ℕ) (x : Scenario) (s : List ℕ) → Agree fs m x → Wide fs →
    numbers_of fs m (parts_of fs x ++ s) ≡ map (λ f. f.written x) fs
unfolding numbers_of parts_of
numbers_back [] m x s h w = refl
numbers_back (f ∷ fs) m x s h w =
    rw (h.0, append_assoc)
    (go f.width (f.written x) (parts_of fs x ++ s) w.0 (numbers_back fs m x s h.1 w.1))
  where
    go : (w : ℕ) (o : Option ℕ) (more : List ℕ) → 1 ≤ w → numbers_of fs m more ≡ map (λ g. g.written x) fs →
        cond (not (is_absent o)) (Some (number_of (take w (part_of w o ++ more)))) None ∷
        numbers_of fs m (drop (cond (not (is_absent o)) w 0) (part_of w o ++ more)) ≡
        o ∷ map (λ g. g.written x) fs
    go w None more l ih = rw ih
    go w (Some n) more l ih = rw (number_front w n more l, drop_at (bytes_of w n) more w (bytes_length w n), ih)

-- ---- the record

length_back : (x : Scenario) → length_by (map_of layout x) ≡ length (record_of x)
unfolding length_by record_of
length_back x = omega (arith, size_agrees layout (map_of layout x) x (written_agrees x))

pub length_written : (x : Scenario) {m n : ℕ} → n ≡ length_by m → m ≡ map_of layout x → n ≡ length (record_of x)
length_written x e f = rw (e, f) (length_back x)

module _ (x : Scenario) (s : List ℕ) (e : refusal_of x ≡ 0) where
  map_back : map_in (record_of x ++ s) ≡ map_of layout x
  unfolding record_of
  map_back = refl

  scenario_back : scenario_in (record_of x ++ s) ≡ x
  unfolding scenario_in record_of
  scenario_back = rw (numbers_back layout (map_of layout x) x s (written_agrees x) layout_wide)
      (simp (unless_or, rupture_of_lem, projection_of_lem))

  passes_back : read_refusal (record_of x ++ s) ≡ 0
  unfolding read_refusal record_of
  passes_back =
      let some = ne_eqb (length (record_of x ++ s)) 0 (λ z. omega arith) in
      let room : length_by (map_of layout x) ≤ length (record_of x ++ s) =
      simp length-append (omega (arith, length_back x)) in
      let fits = le-ltb (length (record_of x ++ s)) (length_by (map_of layout x)) room in
      let apart = apart_agrees layout (map_of layout x) x (written_agrees x) in
      simp (map_back, scenario_back, some, written_passes x, fits, apart, e)

  pub read_written : read_of (record_of x ++ s) ≡ Ok (x, length (record_of x))
  unfolding read_of
  read_written = rw passes_back (rw (scenario_back, map_back, length_back x) refl)

  pub rest_written : rest_of (record_of x ++ s) ≡ s
  unfolding rest_of
  rest_written = rw (passes_back, map_back, length_back x) (drop-append_seam (record_of x) s)
