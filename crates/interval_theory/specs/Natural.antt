-- The steps with pairs of ends that are not below zero, in whole units of 10^-9, rounded outward. Callers go by the
-- laws of proofs/NaturalValues and proofs/NaturalBounds, and never by this text.
use Rattle.std.specs.Prelude.{ℕ, ◌+◌, ◌*◌, ◌/◌, ◌^◌, ◌≤◌, ◌<◌, min, max}
use Rattle.interval_theory.specs.declared.Ends.{Ends}

-- how many units 1 has
abbrev pub unit : ℕ
unit = 1_000_000_000

-- equal ends
abbrev pub exactly : ℕ → Ends ℕ
exactly n = record { low = n; high = n }

-- ---- c/scale of what lies between e's ends

-- a factor's whole number is in units of 1/20,000,000: 10^-7, halved, since ln R is half of ln R² (document 01,
-- 'Boore-Atkinson on rock')
abbrev pub scale : ℕ
scale = 20_000_000

pub record MultipleDomain (c : ℕ) (e : Ends ℕ) : Type 0 where
  pub order : e.low ≤ e.high
  pub small : c * e.high < 2 ^ 63

unfoldable pub multiple_of : ℕ → Ends ℕ → Ends ℕ
multiple_of c e = record { low = c * e.low / scale; high = c * e.high / scale + 1 }

-- ---- a product

pub record ProductDomain (a b : Ends ℕ) : Type 0 where
  pub left : a.low ≤ a.high
  pub right : b.low ≤ b.high
  pub small : a.high * b.high < 2 ^ 63

unfoldable pub product_of : Ends ℕ → Ends ℕ → Ends ℕ
product_of a b = record {
  low = a.low * b.low / unit;
  high = a.high * b.high / unit + 1;
}

-- ---- a quotient, by what is above zero

pub record QuotientDomain (a b : Ends ℕ) : Type 0 where
  pub left : a.low ≤ a.high
  pub right : b.low ≤ b.high
  pub some : 1 ≤ b.low
  pub small : a.high * unit < 2 ^ 63

unfoldable pub quotient_of : Ends ℕ → Ends ℕ → Ends ℕ
quotient_of a b = record {
  low = a.low * unit / b.high;
  high = a.high * unit / b.low + 1;
}

-- ---- a sum

pub record SumDomain (a b : Ends ℕ) : Type 0 where
  pub left : a.low ≤ a.high
  pub right : b.low ≤ b.high
  pub small : a.high + b.high < 2 ^ 63

unfoldable pub sum_of : Ends ℕ → Ends ℕ → Ends ℕ
sum_of a b = record { low = a.low + b.low; high = a.high + b.high }

-- ---- "the pair spans them all"

unfoldable pub hull_of : Ends ℕ → Ends ℕ → Ends ℕ
hull_of a b = record { low = min a.low b.low; high = max a.high b.high }
