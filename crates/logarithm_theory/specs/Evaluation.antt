-- What the logarithm and the root compute, in whole numbers. A change of the way of computing swaps these definitions
-- behind their names; callers go by the laws of proofs/Laws and proofs/Enclosure, and never by this text.
use Rattle.std.specs.Prelude.{cond, ℕ, ◌+◌, ◌*◌, ◌-◌, ◌/◌, ◌^◌, ◌≤◌, ◌<◌, eqb}
use Rattle.std.specs.Int.Count.{count_leading_zeros}
use Rattle.exact_theory.specs.Root.{whole_root}
use Rattle.interval_theory.specs.declared.Ends.{Ends}
use Rattle.logarithm_tables_theory.specs.declared.Factor.{Factor}
use Rattle.logarithm_tables_theory.specs.Tables.{ln2, coarse_at, fine_at}
use Rattle.logarithm_theory.specs.declared.Scaled.{Scaled}
use Rattle.logarithm_theory.specs.Promise.{root_fineness}

-- ---- ln(a/b), in units of 10^-9/4096 till the end, each part from below

-- mantissa 2^octave / 2^35
abbrev pub scaled_by : ℕ → ℕ → Scaled
scaled_by octave mantissa = record { octave = octave; mantissa = mantissa }

-- a/b so, rounded down
unfoldable pub scaled_of : ℕ → ℕ → Scaled
scaled_of a b =
    let x : ℕ = a * 2 ^ 35 / b in
    let k : ℕ = 28 - count_leading_zeros 64 x in
    scaled_by k (x / 2 ^ k)

-- the mantissas that it gives, and the scaled numbers
pub record Mantissa (y : ℕ) : Type 0 where
  pub least : 2 ^ 35 ≤ y
  pub most : y < 2 ^ 36

pub record Normal (s : Scaled) : Type 0 where
  pub few : s.octave ≤ 28
  pub mantissa : Mantissa s.mantissa

-- what a mantissa comes to after both factors: 2^61, or a little above
pub record NearOne (p : ℕ) : Type 0 where
  pub least : 2 ^ 61 ≤ p
  pub most : p < 2 ^ 61 + 20_480 * 2 ^ 35

-- ln(p/2^61) from below: d − d²/2, d = p/2^61 − 1 in units of 2^-41
unfoldable pub near_one_of : ℕ → ℕ
near_one_of p =
    let d : ℕ = (p - 2 ^ 61) / 2 ^ 20 in
    (d - (d * d + (2 ^ 42 - 1)) / 2 ^ 42) * 1_000_000_000 / 2 ^ 29

-- ln(y/2^35) from below
unfoldable pub mantissa_ln_of : ℕ → ℕ
mantissa_ln_of y =
    let c : Factor = coarse_at (y / 2 ^ 29 - 64) in
    let f : Factor = fine_at (y * c.by / 2 ^ 35 - 4096) in
    c.logarithm + f.logarithm + near_one_of (y * c.by * f.by)

-- what the high end adds to the sum beside 23 for each octave: 209 that may be missing of it, and 4095 to round up
abbrev pub slack : ℕ
slack = 4304

-- the ends of a scaled number's logarithm, in units of 10^-9
unfoldable pub scaled_ln_of : Scaled → Ends ℕ
scaled_ln_of s =
    let sum : ℕ = s.octave * ln2 + mantissa_ln_of s.mantissa in
    record { low = sum / 4096; high = (sum + 23 * s.octave + slack) / 4096 }

-- the ends for equal a and b
abbrev pub both_zero : Ends ℕ
both_zero = record { low = 0; high = 0 }

-- the ends of ln(a/b)
unfoldable pub ln_of : ℕ → ℕ → Ends ℕ
ln_of a b = cond (eqb a b) both_zero (scaled_ln_of (scaled_of a b))

-- ---- √X

-- the k of its lower value k/root_fineness
unfoldable pub root_of : ℕ → ℕ
root_of X = whole_root (X * (root_fineness * root_fineness))
