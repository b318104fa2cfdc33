-- What is computed between two rows, in whole units of 10^-9, rounded outward: the low end from the two low ends, the
-- high end from the two high ends. Callers go by the laws of proofs/, and never by this text.
use Rattle.std.specs.Prelude.{cond, ℕ, ◌+◌, ◌*◌, ◌-◌, ◌/◌, ◌^◌, ◌≤◌, ◌<◌, leb, ltb, ℤ}
use Rattle.interval_theory.specs.declared.Ends.{Ends}
use Rattle.interval_theory.specs.declared.SignedPair.{SignedPair}
use Rattle.interval_theory.specs.Natural.{exactly}
use Rattle.interval_theory.specs.Signed.{between_of}
use Rattle.interpolation_theory.specs.declared.TwoRows.{TwoRows}

-- what `above` exceeds `below` by, times t/u: rounded down, and up
unfoldable pub part_down : ℕ → ℕ → ℕ → ℕ → ℕ
part_down above below t u = (above - below) * t / u

unfoldable pub part_up : ℕ → ℕ → ℕ → ℕ → ℕ
part_up above below t u = cond (leb above below) 0 ((above - below) * t / u + 1)

-- a + (b − a) t/u. As t and u are anywhere between their ends, t/u may be a little above 1: the unit more on either
-- side is for that
unfoldable pub interpolated_of : SignedPair → SignedPair → Ends ℕ → Ends ℕ → Ends ℤ
interpolated_of a b t u =
    let above : ℕ = b.gain.low + a.loss.high in
    let below : ℕ = a.gain.low + b.loss.high in
    let over : ℕ = b.gain.high + a.loss.low in
    let under : ℕ = a.gain.high + b.loss.low in
    between_of (a.gain.low + part_down above below t.low u.high)
    (a.loss.high + part_up below above t.high u.low + 1)
    (a.gain.high + part_up over under t.high u.low + 1)
    (a.loss.low + part_down under over t.low u.high)

-- ---- the values by row `last` and, where k is less, by the row before it

abbrev pub no_pair : SignedPair
no_pair = record { gain = exactly 0; loss = exactly 0 }

unfoldable pub two_rows_of : ℕ → ℕ → (ℕ → SignedPair) → TwoRows
two_rows_of k last by_row = record { lower = cond (ltb k last) (by_row (last - 1)) no_pair; upper = by_row last }

-- ---- what t and u are

-- neither is more than n wide, u is above zero, and t is not all above u: t/u is above 1 by 2n/u at most
pub record Share (n : ℕ) (t u : Ends ℕ) : Type 0 where
  pub order : t.low ≤ t.high
  pub narrow : t.high ≤ t.low + n
  pub whole_order : u.low ≤ u.high
  pub whole_narrow : u.high ≤ u.low + n
  pub some : 1 ≤ u.low
  pub part : t.low ≤ u.high

-- ---- what the code takes: no product is too large for it, and no quotient

pub record PartDomain (above below t u : ℕ) : Type 0 where
  pub some : 1 ≤ u
  pub product : (above - below) * t < 2 ^ 64
  pub quotient : part_down above below t u < 2 ^ 62

pub record InterpolationDomain (a b : SignedPair) (t u : Ends ℕ) : Type 0 where
  pub gain : a.gain.low ≤ a.gain.high
  pub loss : a.loss.low ≤ a.loss.high
  pub next_gain : b.gain.low ≤ b.gain.high
  pub next_loss : b.loss.low ≤ b.loss.high
  pub gain_small : a.gain.high < 2 ^ 60
  pub loss_small : a.loss.high < 2 ^ 60
  pub next_gain_small : b.gain.high < 2 ^ 60
  pub next_loss_small : b.loss.high < 2 ^ 60
  pub order : t.low ≤ t.high
  pub whole_order : u.low ≤ u.high
  pub some : 1 ≤ u.low
  pub few : t.high ≤ 2 * u.low
  pub rise : (b.gain.high + a.loss.high - (b.loss.low + a.gain.low)) * t.high < 2 ^ 64
  pub fall : (a.gain.high + b.loss.high - (a.loss.low + b.gain.low)) * t.high < 2 ^ 64
