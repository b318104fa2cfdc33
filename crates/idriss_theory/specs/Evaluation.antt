-- What median and sigma compute, in whole numbers of units of 10^-9. A change of the way of computing swaps these
-- definitions behind their names; callers go by the laws of proofs/Laws and SigmaLaws, and never by this text.
use Rattle.std.specs.Prelude.{cond, ℕ, ◌+◌, ◌*◌, ◌-◌, ◌≤◌, min, ltb, ℤ}
use Rattle.interval_theory.specs.declared.Ends.{Ends}
use Rattle.interval_theory.specs.declared.SignedPair.{SignedPair}
use Rattle.interval_theory.specs.Signed.{ends_of}
use Rattle.interval_theory.specs.Natural.{exactly, multiple_of, sum_of}
use Rattle.logarithm_theory.specs.Evaluation.{ln_of}
use Rattle.interpolation_theory.specs.declared.Step.{Step}
use Rattle.interpolation_theory.specs.Evaluation.{interpolated_of}
use Rattle.idriss_theory.specs.declared.Row as code
use Rattle.idriss_theory.specs.Tables.{Row}
use Rattle.idriss_theory.specs.Median.{F}
use Rattle.idriss_theory.specs.Sigma.{clamp}
use Rattle.idriss_theory.specs.Rows.{parts}

-- ---- the median

-- the sizes of the products in it
pub record AlphaDomain (a1 a2 a3 m : ℕ) : Type 0 where
  pub first : a1 ≤ 120_000
  pub most : m ≤ 790
  pub slope : a2 * m ≤ 15_800_000
  pub square : (850 - m) * (850 - m) ≤ 722_500
  pub bow : a3 * ((850 - m) * (850 - m)) ≤ 722_500_000

-- a1 + a2 M + a3 (8.5 − M)²
unfoldable pub alpha_sum : ℕ → ℕ → ℕ → ℕ → ℕ
alpha_sum a1 a2 a3 m = 100_000 * a1 + 1_000 * (a2 * m) + 10 * (a3 * ((850 - m) * (850 - m)))

-- β1 + β2 M, in 1/20,000,000
unfoldable pub beta_of : code.Row → ℕ → ℕ
beta_of r m = 2_000 * r.6 - 20 * (r.7 * m)

-- the parts of α1 + α2 M + α3 (8.5 − M)² + γ R + φ F that are above zero, and those below
unfoldable pub gains_of : code.Row → ℕ → ℕ → ℕ
gains_of r m mechanism = alpha_sum r.0 r.2 r.4 m + 10_000_000 * (r.10 * F mechanism)

unfoldable pub losses_of : code.Row → ℕ → ℕ → ℕ
losses_of r m rupture_distance = alpha_sum r.1 r.3 r.5 m + 1_000 * (r.9 * rupture_distance)

-- the V_S30 above which V counts as 1200 m/s
abbrev pub vs30_cap : ℕ
vs30_cap = 12_000

-- ln(R + 10) and ln V, which all rows have in common
abbrev pub distance_ln_of : ℕ → Ends ℕ
distance_ln_of rupture_distance = ln_of (rupture_distance + 1_000) 100

abbrev pub vs30_ln_of : ℕ → Ends ℕ
vs30_ln_of vs30 = ln_of (min vs30 vs30_cap) 10

-- (β1 + β2 M) ln(R + 10), and −ξ ln V, by these logarithms
unfoldable pub distance_term_of : code.Row → ℕ → Ends ℕ → Ends ℕ
distance_term_of r m l = multiple_of (beta_of r m) l

unfoldable pub site_term_of : code.Row → Ends ℕ → Ends ℕ
site_term_of r l = multiple_of (20_000 * r.8) l

-- the median as a gain less a loss, by these logarithms and of a distance and a V_S30, and its ends
unfoldable pub median_pair_by : Row → ℕ → ℕ → Ends ℕ → Ends ℕ → ℕ → SignedPair
median_pair_by row m d ln_r ln_v mechanism =
    let r : code.Row = parts row in
    record {
      gain = exactly (gains_of r m mechanism);
      loss = sum_of (sum_of (exactly (losses_of r m d)) (distance_term_of r m ln_r)) (site_term_of r ln_v);
    }

abbrev pub median_pair_of : Row → ℕ → ℕ → ℕ → ℕ → SignedPair
median_pair_of row m d v mechanism = median_pair_by row m d (distance_ln_of d) (vs30_ln_of v) mechanism

unfoldable pub median_of : Row → ℕ → ℕ → ℕ → ℕ → Ends ℤ
median_of row m d v mechanism = ends_of (median_pair_of row m d v mechanism)

-- between two rows, by the logarithms of a step from one to the other
unfoldable pub median_between_of : Row → Row → Step → ℕ → ℕ → ℕ → ℕ → Ends ℤ
median_between_of r q s m d v mechanism =
    interpolated_of (median_pair_of r m d v mechanism) (median_pair_of q m d v mechanism) s.part s.whole

-- ---- sigma

-- M and T, clamped
abbrev pub clamped_magnitude : ℕ → ℕ
clamped_magnitude magnitude = clamp 500 750 magnitude

abbrev pub clamped_period : ℕ → ℕ
clamped_period period = clamp 50 3_000 period

-- 1.18, 0.06 M, and 0.035 ln(a/b)
abbrev pub constant_term : ℕ
constant_term = 1_180_000_000

abbrev pub magnitude_term_of : ℕ → ℕ
magnitude_term_of m = 600_000 * m

unfoldable pub period_term_of : ℕ → ℕ → Ends ℕ
period_term_of a b = multiple_of 700_000 (ln_of a b)

-- 1.18 + 0.035 ln T − 0.06 M as a gain less a loss, of numbers that are clamped: below 1 s ln T is −ln(1/T)
unfoldable pub sigma_pair_of : ℕ → ℕ → SignedPair
sigma_pair_of t m =
    let constant : Ends ℕ = exactly constant_term in
    let magnitude_term : Ends ℕ = exactly (magnitude_term_of m) in
    cond (ltb t 1_000)
    record { gain = constant; loss = sum_of magnitude_term (period_term_of 1_000 t) }
    record { gain = sum_of constant (period_term_of t 1_000); loss = magnitude_term }

-- and its ends
unfoldable pub sigma_of : ℕ → ℕ → Ends ℤ
sigma_of period magnitude = ends_of (sigma_pair_of (clamped_period period) (clamped_magnitude magnitude))
