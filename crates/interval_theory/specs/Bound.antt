-- Bounds that are computed: how far apart a pair's ends are, from where on it lies and up to where; and what each step
-- makes of them. proofs/NaturalBounds and proofs/SignedBounds show it of each step.
use Rattle.std.specs.Prelude.{Bool, ◌&&◌, ℕ, ◌+◌, ◌*◌, ◌-◌, ◌/◌, ◌≤◌, min, max, leb, pos, neg_ℤ, ◌≤ℤ◌, ℤ}
use Rattle.interval_theory.specs.declared.Ends.{Ends}
use Rattle.interval_theory.specs.declared.SignedPair.{SignedPair}
use Rattle.interval_theory.specs.Natural.{unit, scale}

pub record Bound : Type 0 where
  pub width : ℕ
  pub least : ℕ
  pub most : ℕ

-- ---- what a bound says

-- of a pair that is not below zero
pub record Within (e : Ends ℕ) (β : Bound) : Type 0 where
  pub order : e.low ≤ e.high
  pub narrow : e.high ≤ e.low + β.width
  pub least : β.least ≤ e.low
  pub most : e.high ≤ β.most

-- of a signed pair: of its gain and loss together, so that neither end's absolute value is above most
pub record SignedWithin (a : SignedPair) (β : Bound) : Type 0 where
  pub gain : a.gain.low ≤ a.gain.high
  pub loss : a.loss.low ≤ a.loss.high
  pub narrow : a.gain.high + a.loss.high ≤ a.gain.low + a.loss.low + β.width
  pub least : β.least ≤ a.gain.low + a.loss.low
  pub most : a.gain.high + a.loss.high ≤ β.most

-- at most w apart and at most b
abbrev pub size : ℕ → ℕ → Bound
size w b = record { width = w; least = 0; most = b }

abbrev pub Sized : Ends ℕ → ℕ → ℕ → Type 0
Sized e w b = Within e (size w b)

abbrev pub SignedSized : SignedPair → ℕ → ℕ → Type 0
SignedSized a w b = SignedWithin a (size w b)

infix 50 ◌fits◌
-- β is no tighter than α
abbrev pub ◌fits◌ : Bound → Bound → Bool
α fits β = leb α.width β.width && (leb β.least α.least && leb α.most β.most)

-- ---- what a step makes of it

-- n/d rounded up
abbrev pub upward : ℕ → ℕ → ℕ
upward n d = (n + (d - 1)) / d

-- a pair that is given
abbrev pub pair_bound : Ends ℕ → Bound
pair_bound e = record { width = e.high - e.low; least = e.low; most = e.high }

-- a multiple, by a factor of at most c
abbrev pub multiple_bound : ℕ → Bound → Bound
multiple_bound c β = record {
  width = upward (c * β.width) scale + 1;
  least = 0;
  most = upward (c * β.most) scale + 1;
}

abbrev pub product_bound : Bound → Bound → Bound
product_bound α β = record {
  width = upward (α.most * β.width + β.most * α.width) unit + 1;
  least = α.least * β.least / unit;
  most = upward (α.most * β.most) unit + 1;
}

-- a quotient, by what is from 1 unit on
abbrev pub quotient_bound : Bound → Bound → Bound
quotient_bound α β = record {
  width = upward (α.width * unit + (α.most * unit / β.least + 1) * β.width) β.least + 1;
  least = α.least * unit / β.most;
  most = α.most * unit / β.least + 1;
}

-- a sum; and a sum or a difference of signed pairs
abbrev pub sum_bound : Bound → Bound → Bound
sum_bound α β =
    record { width = α.width + β.width; least = α.least + β.least; most = α.most + β.most }

abbrev pub hull_bound : Bound → Bound → Bound
hull_bound α β = record {
  width = max α.most β.most - min α.least β.least;
  least = min α.least β.least;
  most = max α.most β.most;
}

-- a signed pair times a pair: gain and loss are rounded each
abbrev pub times_bound : Bound → Bound → Bound
times_bound α β =
    let π : Bound = product_bound α β in
    record { width = π.width + 2; least = π.least - 1; most = π.most + 1 }

-- ---- where the ends of signed pairs lie

-- those of a lie from −l to m
pub record Ranges (l m : ℕ) (a : SignedPair) : Type 0 where
  pub least : a.loss.high ≤ a.gain.low + l
  pub most : a.gain.high ≤ a.loss.low + m

-- and those of e do
pub record Reaches (l m : ℕ) (e : Ends ℤ) : Type 0 where
  pub least : neg_ℤ (pos l) ≤ℤ e.low
  pub most : e.high ≤ℤ pos m

-- no end of a and no end of b are more than d apart
pub record Near (d : ℕ) (a b : SignedPair) : Type 0 where
  pub above : b.gain.high + a.loss.high ≤ b.loss.low + a.gain.low + d
  pub below : a.gain.high + b.loss.high ≤ a.loss.low + b.gain.low + d
