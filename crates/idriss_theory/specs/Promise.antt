-- What is promised of the ends of median and sigma, whatever the engine computes. proofs/Laws, SigmaLaws and Between
-- show it of `median_of`, `sigma_of` and `median_between_of`; nobody has to read those to believe it.
use Rattle.std.specs.Prelude.{◌≡◌, ℕ, ◌+◌, ◌^◌, ◌≤◌, ◌<◌, pos, ◌+ℤ◌, ◌≤ℤ◌, ℤ}
use Rattle.exact_theory.specs.Formula.{ends, Encloses}
use Rattle.interval_theory.specs.declared.Ends.{Ends}
use Rattle.interval_theory.specs.Signed.{SmallerThan}
use Rattle.interpolation_theory.specs.declared.Step.{Step}
use Rattle.interpolation_theory.specs.Between.{between}
use Rattle.interpolation_theory.specs.Promise.{BetweenEnds}
use Rattle.scenario_theory.specs.Refusal.{idriss}
use Rattle.scenario_theory.specs.Rows.{row_count}
use Rattle.idriss_theory.specs.Tables.{Row}
use Rattle.idriss_theory.specs.Median.{median}
use Rattle.idriss_theory.specs.Sigma.{clamp, sigma}
use Rattle.idriss_theory.specs.Ranges.{median_least, median_most}

-- the arguments of the median: a row of a table, and numbers within the limits of the model; any V_S30 above them,
-- too, as it counts as 1200 m/s
pub record MedianDomain (k magnitude rupture_distance vs30 : ℕ) : Type 0 where
  pub row : k < row_count
  pub magnitude_low : idriss.magnitude.low ≤ magnitude
  pub magnitude_high : magnitude ≤ idriss.magnitude.high
  pub near : rupture_distance ≤ idriss.distance.high
  pub slow : idriss.velocity.low ≤ vs30

-- how far the ends are apart at most; demand 3 allows 100 for the median and 10 for sigma
abbrev pub median_width : ℕ
median_width = 9

abbrev pub sigma_width : ℕ
sigma_width = 2

-- and those of the median between two rows; W-201 allows 200, and W-211 80
abbrev pub between_width : ℕ
between_width = 80

-- e encloses the median by the row r, at every fineness, is narrow, and has ends that a double equals
pub record MedianEnds (r : Row) (magnitude rupture_distance vs30 mechanism : ℕ) (e : Ends ℤ) : Type 0 where
  pub encloses : Encloses (ends e.low e.high) (median r magnitude rupture_distance vs30 mechanism)
  pub narrow : e.high ≤ℤ (e.low +ℤ pos median_width)
  pub small : SmallerThan (2 ^ 53) e

-- e encloses sigma, at every fineness, is narrow, and has ends that a double equals
pub record SigmaEnds (period magnitude : ℕ) (e : Ends ℤ) : Type 0 where
  pub encloses : Encloses (ends e.low e.high) (sigma period magnitude)
  pub narrow : e.high ≤ℤ (e.low +ℤ pos sigma_width)
  pub small : SmallerThan (2 ^ 53) e

-- the ends f of sigma go by period and magnitude only as these are "held to" their ranges (document 01, 'Idriss')
abbrev pub ByClamped : (ℕ → ℕ → Ends ℤ) → Type 0
ByClamped f = (period magnitude : ℕ) → f period magnitude ≡ f (clamp 50 3_000 period) (clamp 500 750 magnitude)

-- e encloses the median between the rows r and q, at every fineness, is narrow, and lies where the medians by rows do,
-- but for 100 units
abbrev pub MedianBetweenEnds : Row → Row → Step → ℕ → ℕ → ℕ → ℕ → Ends ℤ → Type 0
MedianBetweenEnds r q s magnitude rupture_distance vs30 mechanism e =
    BetweenEnds (between s.period s.lower s.upper (median r magnitude rupture_distance vs30 mechanism)
    (median q magnitude rupture_distance vs30 mechanism)) between_width (median_least + 100) (median_most + 100) e
