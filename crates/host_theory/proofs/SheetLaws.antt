-- A sheet's scenarios as they are taken over from C: no more than are looked at.
use mathlib.Core.Path.{◌≡◌, ap, ◌∙◌}
use mathlib.Core.List.{List, map}
use Prim.Native.Nat.{ℕ, ◌≤◌}
use native.Mathlib.Omega.{arith}
use lib.ListN.{length, take}
use Rattle.scenario_theory.specs.declared.Scenario.{Scenario}
use Rattle.sheet_theory.specs.Promise.{sheet_most}
use Rattle.sheet_theory.specs.Evaluation.{filled}
use Rattle.sheet_theory.proofs.Filling.{filled_front}
use Rattle.host_theory.specs.declared.HostScenario.{HostScenario}
use Rattle.host_theory.specs.Told.{scenario_from, no_fields}

-- what looks at the first n of the scenarios alone makes the same of these as of all that C has
pub taken_over : {R : Type 0} (F : List Scenario → R) (n : ℕ) → n ≤ sheet_most →
    ((xs ys : List Scenario) → take n xs ≡ take n ys → F xs ≡ F ys) →
    (places : List HostScenario) → length places ≡ sheet_most → {xs : List Scenario} →
    xs ≡ filled scenario_from (scenario_from no_fields) n places →
    F xs ≡ F (map scenario_from places)
taken_over F n few alike places long e =
    ap F e
    ∙ alike _ _ (filled_front scenario_from (scenario_from no_fields) n n places (omega arith) (omega arith))
