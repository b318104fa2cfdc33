-- The periods of neighbouring rows rise, from 10 to 10000.
use Rattle.std.proofs.Common.{◌≡◌, ◌∷◌, ◌+◌, ◌^◌, ◌≤◌, ◌<◌, ℕ, zero, suc, get_or}
use native.Mathlib.Omega.{arith}
use lib.Dec.{ltb, leb, leb→le, ltb→lt}
use Rattle.toolbox_theory.proofs.Tests.{all_below, below}
use Rattle.logarithm_theory.specs.Promise.{LnDomain}
use Rattle.scenario_theory.specs.Refusal.{boore_atkinson}
use Rattle.scenario_theory.specs.Rows.{row_count}
use Rattle.row_neighbours.proofs.boore_atkinson_neighbours.Goals as goal

abbrev lower : ℕ → ℕ
lower j = get_or boore_atkinson.periods j 0

abbrev upper : ℕ → ℕ
upper j = get_or boore_atkinson.periods (suc j) 0

domain : (k : ℕ) → 1 ≤ k → k + 1 < row_count →
    LnDomain (get_or (0 ∷ boore_atkinson.periods) (k + 1) 0) (get_or (0 ∷ boore_atkinson.periods) k 0)
unfolding all_below
domain zero some h = absurd (omega arith)
domain (suc j) some h =
    let few : j < 20 = omega arith in
    let next : suc j + 1 ≡ suc (suc j) = omega arith in
    rw next
    (record {
      least = leb→le 1 _ (below 20 (λ j. leb 1 (lower j)) tt j few);
      order = leb→le _ _ (below 20 (λ j. leb (lower j) (upper j)) tt j few);
      small = ltb→lt _ _ (below 20 (λ j. ltb (upper j) (2 ^ 29)) tt j few);
    })

pub neighbours-requires : goal.neighbours-requires
neighbours-requires c =
    let d = domain c.args.k c.requires.0 c.requires.1 in
    record { least = omega arith; order = omega arith; small = omega arith }
