-- Fields that are within the limits are arguments of the median.
use Prim.Native.Nat.{ℕ, ◌<◌}
use native.Mathlib.Omega.{arith}
use Rattle.scenario_theory.specs.Refusal.{boore_atkinson}
use Rattle.scenario_theory.specs.Rows.{row_count}
use Rattle.scenario_theory.specs.Accepted.{Within}
use Rattle.boore_atkinson_theory.specs.Promise.{MedianDomain}

pub median_domain : {k M R Vs mechanism T : ℕ} → k < row_count → Within boore_atkinson M R Vs mechanism T →
    MedianDomain k M R Vs
median_domain row w = omega arith
