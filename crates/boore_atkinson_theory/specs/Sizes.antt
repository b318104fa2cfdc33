-- What the steps of the evaluation promise one another of their sizes.
use Rattle.std.specs.Prelude.{ℕ, ◌*◌, ◌-◌, ◌≤◌}
use Rattle.interval_theory.specs.Bound.{Sized}
use Rattle.logarithm_theory.specs.Promise.{ln_width}
use Rattle.logarithm_theory.specs.Bound.{ln_most}
use Rattle.boore_atkinson_theory.specs.declared.EffectiveDistance.{EffectiveDistance}
use Rattle.boore_atkinson_theory.specs.declared.Exact.{Exact}
use Rattle.boore_atkinson_theory.specs.declared.MagnitudeRow.{MagnitudeRow}

-- no end of ln(V/760) is above it in absolute value: ln(760/180), where V is least
abbrev pub vs30_most : ℕ
vs30_most = 1_441_000_000

-- nor any of the linear part
abbrev pub linear_most : ℕ
linear_most = 1_081_000_000

-- what the nonlinear part has over the slope is at most this, in every branch: ln(1/0.06) and its own width
abbrev pub curve_most : ℕ
curve_most = 2_820_000_000

-- and the nonlinear part's gain and loss are at most this together
abbrev pub nonlinear_most : ℕ
nonlinear_most = 3_000_000_000

-- its gain alone
abbrev pub nonlinear_gain : ℕ
nonlinear_gain = 460_000_000

-- gain and loss of the magnitude term, each; and of the motion on rock, together
abbrev pub term_most : ℕ
term_most = 14_000_000_000

abbrev pub rock_most : ℕ
rock_most = 41_000_000_000

-- no end of R, in km, is above it
abbrev pub km_most : ℕ
km_most = 330_000_000_000

pub record EffectiveSized (s : EffectiveDistance) : Type 0 where
  pub ln : Sized s.ln ln_width ln_most
  pub km : Sized s.km 78 km_most

-- the products of the magnitude term
pub record MagnitudeBounds (r : MagnitudeRow) (m : ℕ) : Type 0 where
  pub slope : r.8 * (r.11 - m) ≤ 45_500_000
  pub square : (r.11 - m) * (r.11 - m) ≤ 122_500
  pub bow : r.9 * ((r.11 - m) * (r.11 - m)) ≤ 6_125_000_000
  pub rise : r.10 * (m - r.11) ≤ 64_000_000

pub record Small (e : Exact) (b : ℕ) : Type 0 where
  pub gain : e.gain ≤ b
  pub loss : e.loss ≤ b
