-- The two distances of a scenario as numbers, none where one is absent. Document 02, W-202: "An absent distance has no
-- number, not even 0, and two scenarios that lack it are alike there".
use Rattle.std.specs.Prelude.{Bool, true, false, ℕ, ltb, Option, Some, None, option_map}
use Rattle.scenario_theory.specs.declared.RuptureDistance.{RuptureDistance}
use Rattle.scenario_theory.specs.declared.ProjectionDistance.{ProjectionDistance}

-- in 0.01 km, "rupture distance"
abbrev pub rupture_number : Option RuptureDistance → Option ℕ
rupture_number = option_map (λ d. d.0)

-- in 0.01 km, "the distance to the surface projection"
abbrev pub projection_number : Option ProjectionDistance → Option ℕ
projection_number = option_map (λ d. d.0)

-- and back
abbrev pub rupture_of : Option ℕ → Option RuptureDistance
rupture_of = option_map (λ n. record { 0 = n })

abbrev pub projection_of : Option ℕ → Option ProjectionDistance
projection_of = option_map (λ n. record { 0 = n })

-- ---- numbers that may be absent

abbrev pub is_absent : Option ℕ → Bool
is_absent None = true
is_absent (Some x) = false

-- f of a number that stands, a where it is absent
module _ {A : Type 0} where
  abbrev pub given : Option ℕ → (ℕ → A) → A → A
  given None f a = a
  given (Some x) f a = f x

-- both stand, and the first exceeds the second
abbrev pub exceeds : Option ℕ → Option ℕ → Bool
exceeds None y = false
exceeds (Some x) None = false
exceeds (Some x) (Some y) = ltb y x
