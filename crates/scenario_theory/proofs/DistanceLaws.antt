-- A distance and its number: each undoes the other.
use mathlib.Core.Path.{◌≡◌, refl}
use Prim.Native.Nat.{ℕ}
use Rattle.std.specs.Prelude.{Option, Some, None}
use Rattle.scenario_theory.specs.declared.RuptureDistance.{RuptureDistance}
use Rattle.scenario_theory.specs.declared.ProjectionDistance.{ProjectionDistance}
use Rattle.scenario_theory.specs.Distances.{rupture_number, rupture_of, projection_number, projection_of}

pub rupture_number_lem : (o : Option ℕ) → rupture_number (rupture_of o) ≡ o
rupture_number_lem None = refl
rupture_number_lem (Some x) = refl

pub rupture_of_lem : (d : Option RuptureDistance) → rupture_of (rupture_number d) ≡ d
rupture_of_lem None = refl
rupture_of_lem (Some d) = refl

pub projection_number_lem : (o : Option ℕ) → projection_number (projection_of o) ≡ o
projection_number_lem None = refl
projection_number_lem (Some x) = refl

pub projection_of_lem : (d : Option ProjectionDistance) → projection_of (projection_number d) ≡ d
projection_of_lem None = refl
projection_of_lem (Some d) = refl
