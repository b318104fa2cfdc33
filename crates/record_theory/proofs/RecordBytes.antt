-- The record of an accepted scenario is a list of bytes: its numbers fit the fields.
use mathlib.Core.Path.{◌≡◌}
use mathlib.Core.List.{List, [], ◌∷◌}
use Rattle.std.specs.Prelude.{Option, Some, None}
use Prim.Native.Nat.{ℕ, ◌^◌}
use native.Mathlib.Omega.{arith}
use Rattle.scenario_theory.specs.declared.Scenario.{Scenario}
use Rattle.scenario_theory.specs.Refusal.{refusal_of}
use Rattle.scenario_theory.specs.Distances.{rupture_number}
use Rattle.scenario_theory.proofs.RefusalLaws.{sizes, Below, projection_below}
use Rattle.record_theory.specs.Layout.{Bytes, Field, layout, absent_velocity, absent_mechanism, absent_period}
use Rattle.record_theory.specs.Layout.{map_of, part_of, parts_of, record_of}
use Rattle.record_theory.proofs.AbsentLaws.{unless_below}
use Rattle.record_theory.proofs.ByteLaws.{bytes_none, bytes_cons, bytes_append, bytes_fit}
use Rattle.record_theory.proofs.Agreement.{written_small}

abbrev Fit : List Field → Scenario → Type 0
Fit [] x = Unit {0}
Fit (f ∷ fs) x = Below (256 ^ f.width) (f.written x) × Fit fs x

part_bytes : (w : ℕ) (o : Option ℕ) → Below (256 ^ w) o → Bytes (part_of w o)
part_bytes w None h = bytes_none
part_bytes w (Some n) h = bytes_fit w n h

parts_bytes : (fs : List Field) (x : Scenario) → Fit fs x → Bytes (parts_of fs x)
unfolding parts_of
parts_bytes [] x h = bytes_none
parts_bytes (f ∷ fs) x h =
    bytes_append (part_of f.width (f.written x)) (parts_of fs x) (part_bytes f.width (f.written x) h.0)
    (parts_bytes fs x h.1)

module _ (x : Scenario) (e : refusal_of x ≡ 0) (u : Below 65_536 (rupture_number x.rupture)) where
  layout_fits : Fit layout x
  layout_fits =
      let z = sizes x e in
      let velocity = unless_below (256 ^ 2) x.velocity absent_velocity (omega arith) in
      let mechanism = unless_below (256 ^ 1) x.mechanism absent_mechanism (omega arith) in
      let period = unless_below (256 ^ 2) x.period absent_period (omega arith) in
      (omega arith, (omega arith, (u, (velocity, (mechanism, (period, (projection_below x e, tt)))))))

  pub record_bytes : Bytes (record_of x)
  unfolding record_of
  record_bytes =
      bytes_cons (map_of layout x) (parts_of layout x) (omega (arith, written_small x))
      (parts_bytes layout x layout_fits)
