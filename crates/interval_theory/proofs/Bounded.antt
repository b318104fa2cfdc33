-- A pair with a bound that is computed along with it: a chain of steps is written once, and its numbers by nobody.
use Rattle.std.specs.Prelude.{ℕ}
use Prim.Native.Nat.{ℕ, ◌+◌, ◌*◌, ◌^◌, ◌≤◌}
use native.Mathlib.Omega.{arith}
use lib.Dec.{T, leb, ltb, ltb→lt}
use Rattle.interval_theory.specs.declared.Ends.{Ends}
use Rattle.interval_theory.specs.Natural.{exactly, MultipleDomain, multiple_of, ProductDomain, product_of}
use Rattle.interval_theory.specs.Natural.{SumDomain, sum_of, hull_of}
use Rattle.interval_theory.specs.Bound.{Bound, Within, size, ◌fits◌, pair_bound, multiple_bound, product_bound}
use Rattle.interval_theory.specs.Bound.{sum_bound, hull_bound}
use Rattle.interval_theory.proofs.NaturalBounds.{fitting, wider, pair_within, exactly_within, multiple_within}
use Rattle.interval_theory.proofs.NaturalBounds.{product_within, sum_within, hull_within, multiple_takes}
use Rattle.interval_theory.proofs.NaturalBounds.{product_takes}

pub record Bounded (e : Ends ℕ) : Type 0 where
  pub bound : Bound
  pub within : Within e bound

-- a bound that is given, a pair that is, and equal ends that are at most b
abbrev pub given : {e : Ends ℕ} {β : Bound} → Within e β → Bounded e
given {β = β} h = record { bound = β; within = h }

abbrev pub pair : (e : Ends ℕ) → T (leb e.low e.high) → Bounded e
pair e t = record { bound = pair_bound e; within = pair_within e t }

abbrev pub equal : {n : ℕ} (b : ℕ) → n ≤ b → Bounded (exactly n)
equal b h = record { bound = size 0 b; within = exactly_within b h }

-- a factor that is at most m
abbrev pub multiple : {c : ℕ} (m : ℕ) → c ≤ m → {e : Ends ℕ} → Bounded e → Bounded (multiple_of c e)
multiple m h p = record { bound = multiple_bound m p.bound; within = multiple_within h p.within }

module _ {x y : Ends ℕ} (p : Bounded x) (q : Bounded y) where
  abbrev pub product : Bounded (product_of x y)
  product = record { bound = product_bound p.bound q.bound; within = product_within p.within q.within }

  abbrev pub sum : Bounded (sum_of x y)
  sum = record { bound = sum_bound p.bound q.bound; within = sum_within p.within q.within }

  abbrev pub hull : Bounded (hull_of x y)
  hull = record { bound = hull_bound p.bound q.bound; within = hull_within p.within q.within }

  pub product_fits : T (ltb (p.bound.most * q.bound.most) (2 ^ 63)) → ProductDomain x y
  product_fits t = product_takes p.within q.within (omega (arith, ltb→lt))

  pub sum_fits : T (ltb (p.bound.most + q.bound.most) (2 ^ 63)) → SumDomain x y
  sum_fits t = omega (arith, ltb→lt)

pub multiple_fits : {c : ℕ} (m : ℕ) → c ≤ m → {e : Ends ℕ} (p : Bounded e) → T (ltb (m * p.bound.most) (2 ^ 63)) →
    MultipleDomain c e
multiple_fits m h p t = multiple_takes h p.within (omega (arith, ltb→lt))

-- what a contract says of a pair, by one computed test
pub at_most : {e : Ends ℕ} (p : Bounded e) (β : Bound) → T (p.bound fits β) → Within e β
at_most p β t = wider p.within (fitting t)
