-- Where the fields of a record stand whose map passes.
use mathlib.Core.Path.{◌≡◌, refl, ap, ◌∙◌}
use mathlib.Core.Bool.{Bool, true, false, not, cond, ◌&&◌, ◌||◌, or-false, and-not_self}
use mathlib.Core.List.{List, [], ◌∷◌}
use Rattle.std.specs.Prelude.{Option, Some, None}
use Prim.Native.Nat.{ℕ, ◌+◌, ◌≤◌}
use native.Mathlib.Nat.{add-zero}
use native.Mathlib.Omega.{arith}
use lib.Dec.{eqb}
use lib.ListN.{length, get_or, take, drop}
use lib.Seq.{drop-drop, get_or-drop}
use Rattle.scenario_theory.specs.declared.Scenario.{Scenario}
use Rattle.scenario_theory.specs.Distances.{rupture_of, projection_of, is_absent}
use Rattle.scenario_theory.proofs.DistanceLaws.{rupture_number_lem, projection_number_lem}
use Rattle.record_theory.specs.Layout.{absent_velocity, absent_mechanism, absent_period, Field, layout, stands}
use Rattle.record_theory.specs.Layout.{number_of, size_of, numbers_of, absent_written}
use Rattle.record_theory.specs.Outcome.{map_in, scenario_in, length_by, map_refusal}
use Rattle.record_theory.specs.Steps.{StandBy, Complete}
use Rattle.record_theory.proofs.AbsentLaws.{is_absent_lem, bit_or}
use Rattle.record_theory.proofs.MapLaws.{passed}

-- where the fields after the rupture distance stand
abbrev pub velocity_at : ℕ → ℕ
velocity_at m = 4 + cond (stands 2 m) 2 0

abbrev pub mechanism_at : ℕ → ℕ
mechanism_at m = velocity_at m + cond (stands 3 m) 2 0

abbrev pub period_at : ℕ → ℕ
period_at m = mechanism_at m + cond (stands 4 m) 1 0

abbrev pub projection_at : ℕ → ℕ
projection_at m = period_at m + cond (stands 5 m) 2 0

pub length_is : (m : ℕ) → map_refusal m ≡ 0 → length_by m ≡ projection_at m + cond (stands 6 m) 2 0
unfolding length_by size_of
length_is m e = let p = passed m e in simp (p.model, p.magnitude) (omega arith)

-- there are bytes for every field
pub fields_fit : (s : List ℕ) → Complete s → projection_at (map_in s) + cond (stands 6 (map_in s)) 2 0 ≤ length s
fields_fit s h = omega (arith, length_is (map_in s) h.passes)

-- the number of so many bytes at a place
abbrev pub number_at : ℕ → ℕ → List ℕ → ℕ
number_at width at s = number_of (take width (drop at s))

-- the numbers of the fields, each at its place
abbrev numbers_at : List Field → ℕ → ℕ → List ℕ → List (Option ℕ)
numbers_at [] m at s = []
numbers_at (f ∷ fs) m at s =
    cond (stands f.bit m) (Some (number_at f.width at s)) None ∷
    numbers_at fs m (at + cond (stands f.bit m) f.width 0) s

numbers_at_lem : (fs : List Field) (m at : ℕ) (s : List ℕ) → numbers_of fs m (drop at s) ≡ numbers_at fs m at s
unfolding numbers_of
numbers_at_lem [] m at s = refl
numbers_at_lem (f ∷ fs) m at s =
    let n = cond (stands f.bit m) f.width 0 in
    rw (drop-drop n at s, numbers_at_lem fs m (at + n) s)

pub scenario_is : (s : List ℕ) → map_refusal (map_in s) ≡ 0 →
    scenario_in s ≡
    record {
      model = number_at 1 1 s;
      magnitude = number_at 2 2 s;
      rupture = rupture_of (cond (stands 2 (map_in s)) (Some (number_at 2 4 s)) None);
      velocity = cond (stands 3 (map_in s)) (number_at 2 (velocity_at (map_in s)) s) absent_velocity;
      mechanism = cond (stands 4 (map_in s)) (number_at 1 (mechanism_at (map_in s)) s) absent_mechanism;
      period = cond (stands 5 (map_in s)) (number_at 2 (period_at (map_in s)) s) absent_period;
      projection = projection_of (cond (stands 6 (map_in s)) (Some (number_at 2 (projection_at (map_in s)) s)) None);
    }
unfolding scenario_in
scenario_is s e =
    let p = passed (map_in s) e in
    rw (numbers_at_lem layout (map_in s) 1 s) (simp (p.model, p.magnitude, bit_or) refl)

-- the distances that are read stand where the map says so
stands_by : (b : Bool) (x : ℕ) → b ≡ not (is_absent (cond b (Some x) None))
stands_by true x = refl
stands_by false x = refl

pub distances_read : (s : List ℕ) → map_refusal (map_in s) ≡ 0 → StandBy (map_in s) (scenario_in s)
distances_read s e =
    rw (scenario_is s e) (record {
      rupture = rw rupture_number_lem (stands_by (stands 2 (map_in s)) _);
      projection = rw projection_number_lem (stands_by (stands 6 (map_in s)) _);
    })

-- a byte
front_byte : (s : List ℕ) → number_of (take 1 s) ≡ get_or s 0 0
front_byte [] = refl
front_byte (a ∷ s) = omega arith

pub byte_at : (s : List ℕ) (at : ℕ) → number_at 1 at s ≡ get_or s at 0
byte_at s at = front_byte (drop at s) ∙ (get_or-drop at s 0 0 ∙ ap (λ (i : ℕ). get_or s i 0) (add-zero at))

-- a field that stands with its absent number, one of three; a distance has none
pub absent_written_is : (m : ℕ) (x : Scenario) → StandBy m x →
    absent_written layout m x ≡
    ((eqb x.velocity absent_velocity && stands 3 m) ||
    ((eqb x.mechanism absent_mechanism && stands 4 m) || (eqb x.period absent_period && stands 5 m)))
unfolding absent_written
absent_written_is m x d = simp (is_absent_lem, d.rupture, d.projection, and-not_self, or-false)
