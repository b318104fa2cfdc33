-- The bound of the logarithm's ends, computed from bounds of its arguments.
use Rattle.std.specs.Prelude.{ℕ, ◌+◌, ◌*◌, ◌-◌, min}
use Rattle.interval_theory.specs.Natural.{unit}
use Rattle.interval_theory.specs.Bound.{Bound, upward}
use Rattle.logarithm_theory.specs.Promise.{ln_width}
use Rattle.logarithm_theory.specs.Evaluation.{ln_of}

-- no end of any logarithm is above it
abbrev pub ln_most : ℕ
ln_most = 21_000_000_000

-- of ln(a/b) for a up to a₁ and b from b₀ on: it is at most (a − b)/b
abbrev pub ln_bound : ℕ → ℕ → Bound
ln_bound a₁ b₀ = record {
  width = ln_width;
  least = 0;
  most = min (upward ((a₁ - b₀) * unit) b₀ + ln_width) ln_most;
}

-- of ln(a/b) for a from a₀ to a₁ and b from b₀ to b₁, b₁ at most a₀: by the logarithms at the ends
abbrev pub ln_between : ℕ → ℕ → ℕ → ℕ → Bound
ln_between a₀ a₁ b₀ b₁ = record {
  width = ln_width;
  least = (ln_of a₀ b₁).low - 2 * ln_width;
  most = (ln_of a₁ b₀).high + 2 * ln_width;
}
