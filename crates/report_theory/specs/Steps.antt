-- What the private functions of report say to each other; no promise to callers rests on reading it.
use Rattle.std.specs.Prelude.{◌≡◌, List, [], ◌∷◌, map, ℕ, ◌≤◌, length, ℤ}
use Rattle.interval_theory.specs.declared.Ends.{Ends}
use Rattle.report_theory.specs.Text.{signed_decimal, spaced}

-- n is the length of some bytes, which are at most so many
pub record Counted (bytes : List ℕ) (most n : ℕ) : Type 0 where
  pub is : n ≡ length bytes
  pub few : n ≤ most

-- two ends, each with a space before it
abbrev pub ends_bytes : Ends ℤ → List ℕ
ends_bytes e = spaced (map signed_decimal (e.low ∷ e.high ∷ []))
