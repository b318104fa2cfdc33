-- What the steps of the evaluation promise one another of their sizes, in units of 10^-9.
use Rattle.std.specs.Prelude.{ℕ}

-- a1 + a2 M + a3 (8.5 − M)², where none of the three is below zero
abbrev pub alpha_most : ℕ
alpha_most = 36_000_000_000

-- the gains, and the losses
abbrev pub exact_most : ℕ
exact_most = 40_000_000_000

-- no end of (β1 + β2 M) ln(R + 10), of −ξ ln V and of 0.035 ln T is above it in absolute value
abbrev pub distance_term_most : ℕ
distance_term_most = 42_000_000_001

abbrev pub site_term_most : ℕ
site_term_most = 31_500_000_001

abbrev pub period_term_most : ℕ
period_term_most = 735_000_001

-- nor any of the median's gain and loss, together
abbrev pub pair_most : ℕ
pair_most = 160_000_000_000
