-- A map byte and a scenario that agree: a field's bit stands exactly where the field is written. They do in a record
-- that is written, and in one that is read.
use mathlib.Core.Path.{◌≡◌, refl, sym, ◌∙◌}
use mathlib.Core.Bool.{Bool, true, false, not, cond, and-not_self}
use mathlib.Core.List.{List, [], ◌∷◌}
use Rattle.std.specs.Prelude.{Option, Some, None}
use Prim.Native.Nat.{ℕ, suc, ◌+◌, ◌*◌, ◌/◌, ◌%◌, ◌^◌, ◌≤◌, ◌<◌}
use native.Mathlib.Nat.{mul-zero, pow-suc, two-pow-succ, div-div-eq-div-mul}
use native.Mathlib.Omega.{arith}
use borrow.Author.Tests.{eqb-true, eqb-false, eq-eqb, ne_eqb}
use lib.Dec.{eqb}
use lib.ListN.{length, length-append}
use Rattle.scenario_theory.specs.declared.Scenario.{Scenario}
use Rattle.scenario_theory.specs.Distances.{is_absent}
use Rattle.record_theory.specs.Layout.{Field, layout, stands, size_of, absent_written, map_of, part_of}
use Rattle.record_theory.specs.Layout.{parts_of}
use Rattle.record_theory.specs.Outcome.{map_refusal}
use Rattle.record_theory.proofs.ByteLaws.{bytes_length}

abbrev pub Agree : List Field → ℕ → Scenario → Type 0
Agree [] m x = Unit {0}
Agree (f ∷ fs) m x = (stands f.bit m ≡ not (is_absent (f.written x))) × Agree fs m x

part_length : (w : ℕ) (o : Option ℕ) → cond (not (is_absent o)) w 0 ≡ length (part_of w o)
part_length w None = refl
part_length w (Some n) = sym (bytes_length w n)

-- the map as long as the record
pub size_agrees : (fs : List Field) (m : ℕ) (x : Scenario) → Agree fs m x → size_of fs m ≡ length (parts_of fs x)
unfolding size_of parts_of
size_agrees [] m x h = refl
size_agrees (f ∷ fs) m x h =
    rw (h.0, length-append, size_agrees fs m x h.1, part_length f.width (f.written x)) refl

-- and no field written with its absent number
pub apart_agrees : (fs : List Field) (m : ℕ) (x : Scenario) → Agree fs m x → absent_written fs m x ≡ false
unfolding absent_written
apart_agrees [] m x h = refl
apart_agrees (f ∷ fs) m x h = rw (h.0, apart_agrees fs m x h.1, and-not_self) refl

-- ---- the map is a binary number, whose digits say which fields are written, the first field the lowest

-- the bits of the fields are k, k + 1 and so on
abbrev Counted : ℕ → List Field → Type 0
Counted k [] = Unit {0}
Counted k (f ∷ fs) = (f.bit ≡ k) × Counted (suc k) fs

layout_counted : Counted 0 layout
layout_counted = (refl, (refl, (refl, (refl, (refl, (refl, (refl, tt)))))))

abbrev digits : List Field → Scenario → ℕ
digits [] x = 0
digits (f ∷ fs) x = cond (is_absent (f.written x)) 0 1 + 2 * digits fs x

digit : (b : Bool) (p : ℕ) → (cond b 0 p ≡ p * cond b 0 1) × (cond b 0 1 ≤ 1)
digit true p = omega arith
digit false p = omega arith

map_digits : (fs : List Field) (k : ℕ) (x : Scenario) → Counted k fs →
    (map_of fs x ≡ 2 ^ k * digits fs x) × (digits fs x < 2 ^ length fs)
unfolding map_of
map_digits [] k x c = (sym (mul-zero (2 ^ k)), omega arith)
map_digits (f ∷ fs) k x c =
    let ih = map_digits fs (suc k) x c.1 in
    let d = digit (is_absent (f.written x)) (2 ^ k) in
    rw (c.0, ih.0, pow-suc 2 k) (omega (arith, two-pow-succ (length fs)))

half : (m k : ℕ) → m / 2 ^ suc k ≡ m / 2 ^ k / 2
half m k = rw (pow-suc 2 k, div-div-eq-div-mul m (2 ^ k) 2) refl

-- a number with these digits agrees, and no other does
agree_iff : (fs : List Field) (k m : ℕ) (x : Scenario) → Counted k fs → m / 2 ^ k < 2 ^ length fs →
    (m / 2 ^ k ≡ digits fs x → Agree fs m x) × (Agree fs m x → m / 2 ^ k ≡ digits fs x)
agree_iff [] k m x c l = (λ e. tt, λ h. omega arith)
agree_iff (f ∷ fs) k m x c l =
    let ih = agree_iff fs (suc k) m x c.1 (omega (arith, half m k, two-pow-succ (length fs))) in
    let d = go (m / 2 ^ k) (is_absent (f.written x)) in (
      λ e. (rw c.0 (d.0 e).0, ih.0 (half m k ∙ (d.0 e).1)),
      λ h. d.1 (rw c.0 at h.0) (sym (half m k) ∙ ih.1 h.1),
    )
  where
    go : (q : ℕ) (b : Bool) →
        (q ≡ cond b 0 1 + 2 * digits fs x → (eqb (q % 2) 1 ≡ not b) × (q / 2 ≡ digits fs x)) ×
        (eqb (q % 2) 1 ≡ not b → q / 2 ≡ digits fs x → q ≡ cond b 0 1 + 2 * digits fs x)
    go q true = (λ e. (ne_eqb (q % 2) 1 (λ z. omega arith), omega arith), λ e h. omega (arith, eqb-false (q % 2) 1 e))
    go q false = (λ e. (eq-eqb (q % 2) 1 (omega arith), omega arith), λ e h. omega (arith, eqb-true (q % 2) 1 e))

-- so the map of a record that is read is that of what was read
pub map_agrees : (m : ℕ) (x : Scenario) → Agree layout m x → m < 2 ^ length layout → map_of layout x ≡ m
map_agrees m x h l =
    omega (arith, (map_digits layout 0 x layout_counted).0, (agree_iff layout 0 m x layout_counted (omega arith)).1 h)

-- ---- a record that is written

module _ (x : Scenario) where
  pub written_small : map_of layout x < 2 ^ length layout
  written_small = let d = map_digits layout 0 x layout_counted in omega arith

  pub written_agrees : Agree layout (map_of layout x) x
  written_agrees =
      let d = map_digits layout 0 x layout_counted in
      (agree_iff layout 0 (map_of layout x) x layout_counted (omega arith)).0 (omega arith)

  pub written_passes : map_refusal (map_of layout x) ≡ 0
  unfolding map_refusal
  written_passes =
      let m = map_of layout x in
      let h = written_agrees in
      let spare : m / 2 ^ 7 % 2 ≡ 0 = omega (arith, written_small) in
      let some : eqb m 0 ≡ false = ne_eqb m 0 (λ z. omega (arith, eqb-true (m / 2 ^ 0 % 2) 1 h.0)) in
      rw (spare, h.0, h.1.0, some) refl
