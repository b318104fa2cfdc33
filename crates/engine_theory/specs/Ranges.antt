-- Where the ends of a median lie, in units of 10^-9. W-203's millionths of g rest on it.
use Rattle.std.specs.Prelude.{ℕ, pos, ◌≤ℤ◌, ℤ, Ok, Err}
use Rattle.interval_theory.specs.declared.Ends.{Ends}
use Rattle.interval_theory.specs.Bound.{Reaches}
use Rattle.engine_theory.specs.Promise.{Answer}

-- from −18.1 to 2.1, by a row and between rows; in truth from −13.97 to 1.13
abbrev pub median_least : ℕ
median_least = 18_100_000_000

abbrev pub median_most : ℕ
median_most = 2_100_000_000

-- the ends are in order and lie there, so neither is above the most
pub record InRange (e : Ends ℤ) : Type 0 where
  pub order : e.low ≤ℤ e.high
  pub low_most : e.low ≤ℤ pos median_most
  pub reaches : Reaches median_least median_most e

abbrev pub AnswerInRange : Answer → Type 0
AnswerInRange (Ok e) = InRange e.median
AnswerInRange (Err r) = Unit {0}
