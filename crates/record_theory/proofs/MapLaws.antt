-- The checks of the map byte. What holds of every byte is one test that antt computes over all 256.
use mathlib.Core.Path.{◌≡◌, sym, ◌∙◌}
use mathlib.Core.Bool.{true, not, and-eq-true_iff, ◌&&◌}
use Prim.Native.Nat.{ℕ, ◌%◌, ◌<◌, ◌≤◌}
use native.Mathlib.Omega.{arith}
use borrow.Author.Tests.{leb-false, not-false}
use lib.Dec.{T, eqb, leb, eqb→eq}
use Rattle.toolbox_theory.proofs.Tests.{all_below, below}
use Rattle.scenario_theory.specs.Checks.{◌when◌, ◌otherwise◌}
use Rattle.scenario_theory.proofs.CheckLaws.{none_of, not_when}
use Rattle.scenario_theory.proofs.NumberLaws.{number_when, number_otherwise}
use Rattle.record_theory.specs.Layout.{stands}
use Rattle.record_theory.specs.Outcome.{map_refusal}

-- the map's checks as a program makes them
abbrev pub checked : ℕ → ℕ
checked m = 8 when leb 128 m otherwise 9 when not (eqb (m % 4) 3) otherwise 10 when eqb m 0

all_checked : T (all_below 256 (λ m. eqb (checked m) (map_refusal m)))
unfolding all_below map_refusal
all_checked = tt

pub map_checked : (m : ℕ) → m < 256 → map_refusal m ≡ checked m
map_checked m h =
    sym (eqb→eq (checked m) (map_refusal m) (below 256 (λ m. eqb (checked m) (map_refusal m)) all_checked m h))

-- the number is one of document 01's
pub map_numbered : (m : ℕ) → map_refusal m ≤ 15
unfolding map_refusal
map_numbered m =
    number_otherwise _ _ (number_when 8 (stands 7 m) (omega arith))
    (number_otherwise _ _ (number_when 9 (not (stands 0 m && stands 1 m)) (omega arith))
    (number_when 10 (eqb m 0) (omega arith)))

-- ---- a map that passes: the bits of the fields that always stand do, and it is below 128

pub record Passed (m : ℕ) : Type 0 where
  pub model : stands 0 m ≡ true
  pub magnitude : stands 1 m ≡ true

pub passed : (m : ℕ) → map_refusal m ≡ 0 → Passed m
unfolding map_refusal
passed m e =
    let u = none_of (8 when stands 7 m) _ e in
    let v = none_of (9 when not (stands 0 m && stands 1 m)) _ u.1 in
    let a = (and-eq-true_iff (stands 0 m) (stands 1 m)).0 (not-false _ (not_when 8 _ v.0)) in
    record { model = a.0; magnitude = a.1 }

pub map_small : (m : ℕ) → m < 256 → map_refusal m ≡ 0 → m < 128
map_small m h e = leb-false 128 m (not_when 7 _ (none_of (8 when leb 128 m) _ (sym (map_checked m h) ∙ e)).0)
