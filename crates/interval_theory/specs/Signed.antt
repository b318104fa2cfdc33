-- The steps with signed pairs, and with ends of either sign, in whole units of 10^-9, rounded outward. Callers go by
-- the laws of proofs/SignedValues and proofs/SignedBounds, and never by this text.
use Rattle.std.specs.Prelude.{cond, ℕ, ◌*◌, ◌^◌, ◌≤◌, ◌<◌, ℤ, nat_abs}
use Rattle.std.proofs.Math.IntN.{sub_ℕ}
use Rattle.std.specs.Int.Signed.{le_z}
use Rattle.interval_theory.specs.declared.Ends.{Ends}
use Rattle.interval_theory.specs.declared.SignedPair.{SignedPair}
use Rattle.interval_theory.specs.Natural.{product_of, sum_of}

-- ---- signed pairs

-- the ends of gain and loss are in order, and no sum of two is too large
pub record Moderate (a : SignedPair) : Type 0 where
  pub gain : a.gain.low ≤ a.gain.high
  pub loss : a.loss.low ≤ a.loss.high
  pub gain_small : a.gain.high < 2 ^ 62
  pub loss_small : a.loss.high < 2 ^ 62

unfoldable pub plus_of : SignedPair → SignedPair → SignedPair
plus_of a b = record { gain = sum_of a.gain b.gain; loss = sum_of a.loss b.loss }

-- a − b
unfoldable pub minus_of : SignedPair → SignedPair → SignedPair
minus_of a b = record { gain = sum_of a.gain b.loss; loss = sum_of a.loss b.gain }

-- a times what lies between the ends of e, which are not below zero
pub record TimesDomain (a : SignedPair) (e : Ends ℕ) : Type 0 where
  pub gain : a.gain.low ≤ a.gain.high
  pub loss : a.loss.low ≤ a.loss.high
  pub order : e.low ≤ e.high
  pub gain_small : a.gain.high * e.high < 2 ^ 63
  pub loss_small : a.loss.high * e.high < 2 ^ 63

unfoldable pub times_of : SignedPair → Ends ℕ → SignedPair
times_of a e = record { gain = product_of a.gain e; loss = product_of a.loss e }

-- ---- ends of either sign

-- both ends are below n in absolute value
pub record SmallerThan (n : ℕ) (e : Ends ℤ) : Type 0 where
  pub low : nat_abs e.low < n
  pub high : nat_abs e.high < n

-- from a − b to c − d
unfoldable pub between_of : ℕ → ℕ → ℕ → ℕ → Ends ℤ
between_of a b c d = record { low = sub_ℕ a b; high = sub_ℕ c d }

-- those of a signed pair
unfoldable pub ends_of : SignedPair → Ends ℤ
ends_of a = between_of a.gain.low a.loss.high a.gain.high a.loss.low

-- "the pair spans them all": from the lesser low end to the greater high end
abbrev pub lesser : ℤ → ℤ → ℤ
lesser y z = cond (le_z y z) y z

abbrev pub greater : ℤ → ℤ → ℤ
greater y z = cond (le_z y z) z y

unfoldable pub signed_hull_of : Ends ℤ → Ends ℤ → Ends ℤ
signed_hull_of a b = record { low = lesser a.low b.low; high = greater a.high b.high }
