-- What is promised of the ends of median, sigma and nonlinear part, whatever the engine computes. proofs/Laws and
-- Between show it of `median_of`, `sigma_of`, `nonlinear_ends_of`, `median_between_of` and `sigma_between_of`; nobody
-- has to read those to believe it.
use Rattle.std.specs.Prelude.{◌≡◌, ℕ, ◌+◌, ◌^◌, ◌≤◌, ◌<◌, pos, neg_ℤ, ◌+ℤ◌, ◌≤ℤ◌, ℤ}
use Rattle.exact_theory.specs.Fraction.{Fraction}
use Rattle.exact_theory.specs.Pair.{◌∈◌}
use Rattle.exact_theory.specs.Formula.{stated, ends, Encloses}
use Rattle.interval_theory.specs.declared.Ends.{Ends}
use Rattle.interval_theory.specs.Signed.{SmallerThan}
use Rattle.interpolation_theory.specs.declared.Step.{Step}
use Rattle.interpolation_theory.specs.Between.{between}
use Rattle.interpolation_theory.specs.Promise.{BetweenEnds}
use Rattle.scenario_theory.specs.Refusal.{boore_atkinson}
use Rattle.scenario_theory.specs.Rows.{row_count}
use Rattle.boore_atkinson_theory.specs.Tables.{SiteAmplification, Total, Row}
use Rattle.boore_atkinson_theory.specs.SiteTerm.{bnl, nonlinear_part}
use Rattle.boore_atkinson_theory.specs.Median.{median, sigma}
use Rattle.boore_atkinson_theory.specs.Ranges.{median_least, median_most}

-- the arguments of the median: a row of the tables, and numbers within the limits of the model
pub record MedianDomain (k magnitude projection_distance vs30 : ℕ) : Type 0 where
  pub row : k < row_count
  pub magnitude_low : boore_atkinson.magnitude.low ≤ magnitude
  pub magnitude_high : magnitude ≤ boore_atkinson.magnitude.high
  pub near : projection_distance ≤ boore_atkinson.distance.high
  pub slow : boore_atkinson.velocity.low ≤ vs30
  pub fast : vs30 ≤ boore_atkinson.velocity.high

-- the arguments of the nonlinear part: −p lies between the ends of b, so that p is at most 0
pub record NonlinearDomain (k vs30 : ℕ) (b : Ends ℕ) : Type 0 where
  pub row : k < row_count
  pub slow : boore_atkinson.velocity.low ≤ vs30
  pub fast : vs30 ≤ boore_atkinson.velocity.high
  pub order : b.low ≤ b.high

-- how far the ends of the median are apart at most; demand 3 allows 2,000
abbrev pub median_width : ℕ
median_width = 49

-- and between two rows; W-201 allows 4,000, and W-211 1,000
abbrev pub between_width : ℕ
between_width = 1_000

-- and those of sigma there; W-201 allows 20, and W-211 10
abbrev pub sigma_between_width : ℕ
sigma_between_width = 5

-- how far the ends of p are apart at most, and those of the nonlinear part where p's are
abbrev pub rock_width : ℕ
rock_width = 4

abbrev pub nonlinear_width : ℕ
nonlinear_width = 42

-- e encloses the median by the row r, at every fineness, is narrow, and has ends that a double equals
pub record MedianEnds (r : Row) (magnitude projection_distance vs30 mechanism : ℕ) (e : Ends ℤ) : Type 0 where
  pub encloses : Encloses (ends e.low e.high) (median r magnitude projection_distance vs30 mechanism)
  pub narrow : e.high ≤ℤ (e.low +ℤ pos median_width)
  pub small : SmallerThan (2 ^ 53) e

-- e encloses the nonlinear part for every p of a pair, at every fineness, is narrow where p is, and has ends that a
-- double equals
pub record NonlinearEnds (s : SiteAmplification) (vs30 : ℕ) (b : Ends ℕ) (e : Ends ℤ) : Type 0 where
  pub encloses : (p : Fraction) → p ∈ ends (neg_ℤ (pos b.high)) (neg_ℤ (pos b.low)) →
      Encloses (ends e.low e.high) (nonlinear_part (bnl s vs30) (stated p))
  pub narrow : b.high ≤ b.low + rock_width → e.high ≤ℤ (e.low +ℤ pos nonlinear_width)
  pub small : SmallerThan (2 ^ 53) e

-- e encloses sigma, at every fineness, and has ends that a double equals; "Its two ends are equal"
pub record SigmaEnds (t : Total) (mechanism : ℕ) (e : Ends ℤ) : Type 0 where
  pub encloses : Encloses (ends e.low e.high) (sigma t mechanism)
  pub equal : e.high ≡ e.low
  pub small : SmallerThan (2 ^ 53) e

-- e encloses the median between the rows r and q, at every fineness, is narrow, and lies where the medians by rows do,
-- but for 1,000 units
abbrev pub MedianBetweenEnds : Row → Row → Step → ℕ → ℕ → ℕ → ℕ → Ends ℤ → Type 0
MedianBetweenEnds r q s magnitude projection_distance vs30 mechanism e =
    BetweenEnds (between s.period s.lower s.upper (median r magnitude projection_distance vs30 mechanism)
    (median q magnitude projection_distance vs30 mechanism)) between_width (median_least + 1_000)
    (median_most + 1_000) e

-- and sigma "goes the same way" (W-201); it lies from 0 to 1, but for 100 units
abbrev pub SigmaBetweenEnds : Total → Total → Step → ℕ → Ends ℤ → Type 0
SigmaBetweenEnds t u s mechanism e =
    BetweenEnds (between s.period s.lower s.upper (sigma t mechanism) (sigma u mechanism)) sigma_between_width
    100 1_000_000_100 e
