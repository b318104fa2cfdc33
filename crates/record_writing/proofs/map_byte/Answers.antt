use mathlib.Core.Path.{◌≡◌, refl}
use mathlib.Core.Bool.{Bool, true, false, not, cond}
use Prim.Native.Nat.{ℕ}
use native.Mathlib.Omega.{arith}
use lib.Dec.{eqb}
use Rattle.std.specs.Prelude.{Option, Some, None, is_some, option_map}
use Rattle.scenario_theory.specs.Distances.{is_absent}
use Rattle.record_theory.specs.Layout.{◌unless◌, absent_velocity, absent_mechanism, absent_period, map_of}
use Rattle.record_theory.proofs.AbsentLaws.{is_absent_lem}
use Rattle.record_writing.proofs.map_byte.Goals as goal

-- what is added where a field is not left out
added : (x d k : ℕ) → cond (not (eqb x d)) k 0 ≡ cond (is_absent (x unless d)) 0 k
added x d k = rw (is_absent_lem x d) (go (eqb x d))
  where
    go : (b : Bool) → cond (not b) k 0 ≡ cond b 0 k
    go true = refl
    go false = refl

-- and where a distance stands
stood : {A : Type 0} (f : A → ℕ) (o : Option A) (k : ℕ) → cond (is_some o) k 0 ≡ cond (is_absent (option_map f o)) 0 k
stood f None k = refl
stood f (Some d) k = refl

pub returns : goal.returns
unfolding map_of
returns c =
    let x = c.args.x in
    let rupture = rw c.is_some.ensures at c.more_if-rupture.ensures.0 in
    let projection = rw c.is_some-2.ensures at c.more_if.ensures.0 in
    let to_rupture = stood (λ d. d.0) x.rupture 4 in
    let to_projection = stood (λ d. d.0) x.projection 64 in
    let velocity = added x.velocity absent_velocity 8 in
    let mechanism = added x.mechanism absent_mechanism 16 in
    let period = added x.period absent_period 32 in
    omega arith
