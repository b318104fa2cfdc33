-- What is shown of the logarithm's ends beside the promise: how large they are at least, and how those of a/b, b/c and
-- a/c go together, for c up to b and b up to a.
use Rattle.std.specs.Prelude.{ℕ, ◌+◌, ◌*◌, ◌-◌, ◌≤◌}
use Rattle.interval_theory.specs.Natural.{unit}
use Rattle.logarithm_theory.specs.Promise.{ln_width}
use Rattle.logarithm_theory.specs.Evaluation.{ln_of}

-- ln(a/b) is at least (a − b)/a
abbrev pub LnLeast : ℕ → ℕ → Type 0
LnLeast a b = (a - b) * unit ≤ (ln_of a b).high * a

-- ln(a/c) is ln(b/c) + ln(a/b)
pub record LnChain (a b c : ℕ) : Type 0 where
  pub low : (ln_of b c).low + (ln_of a b).low ≤ (ln_of a c).high
  pub high : (ln_of a c).low ≤ (ln_of b c).high + (ln_of a b).high

-- ln(a/c) is above ln(b/c) by at least (a − b)/a, and above ln(a/b) by at least (b − c)/b: where that is g units more
-- than three pairs are wide, the ends are g units apart
pub record LnSteps (a b c : ℕ) : Type 0 where
  pub numerators : (g : ℕ) → (g + 3 * ln_width) * a ≤ (a - b) * unit → (ln_of b c).high + g ≤ (ln_of a c).low
  pub denominators : (g : ℕ) → (g + 3 * ln_width) * b ≤ (b - c) * unit → (ln_of a b).high + g ≤ (ln_of a c).low
