-- Whole numbers below 2 ^ 53 in absolute value are doubles: nothing is rounded.
use mathlib.Core.Bool.{true, false}
use Prim.Native.Nat.{suc, ◌^◌, ◌<◌}
use native.Mathlib.Nat.{le_of_lt}
use lib.Dec.{T, le→leb, lt→ltb}
use lib.IntN.{ℤ, pos, negsuc, nat_abs}
use lib.Ieee.{binary64, in_float, of_int}
use lib.Ieee.Back.{round_whole}
use Rattle.engine_theory.specs.Promise.{Equals}
use Rattle.engine_theory.specs.Evaluation.{host_format, double_of}

pub in_range : (z : ℤ) → nat_abs z < 2 ^ 53 → T (in_float binary64 z)
unfolding in_float
in_range (pos n) h = le→leb n (2 ^ 53) (le_of_lt h)
in_range (negsuc n) h = lt→ltb n (2 ^ 53) (le_of_lt h)

pub equals : (z : ℤ) → nat_abs z < 2 ^ 53 → Equals (double_of z) z
unfolding of_int
equals (pos n) h = round_whole host_format false n (le_of_lt h)
equals (negsuc n) h = round_whole host_format true (suc n) (le_of_lt h)
