-- Sizes of the products that the median forms.
use Rattle.std.specs.Prelude.{ℕ}
use mathlib.Core.List.{[], ◌∷◌}
use Prim.Native.Nat.{ℕ, ◌+◌, ◌*◌, ◌-◌, ◌≤◌, min}
use native.Mathlib.Nat.{mul-le-mul, mul-le-mul_left}
use native.Mathlib.Omega.{arith}
use Rattle.toolbox_theory.specs.Lists.{among}
use Rattle.toolbox_theory.proofs.Tests.{by_test}
use Rattle.interval_theory.specs.declared.Ends.{Ends}
use Rattle.interval_theory.specs.Bound.{size, Sized}
use Rattle.interval_theory.proofs.Bounded.{given, multiple, at_most}
use Rattle.logarithm_theory.specs.Promise.{LnDomain, ln_width}
use Rattle.logarithm_theory.specs.Bound.{ln_most}
use Rattle.idriss_theory.specs.declared.Row.{Row}
use Rattle.idriss_theory.specs.Median.{F}
use Rattle.idriss_theory.specs.Evaluation.{AlphaDomain, alpha_sum, beta_of, gains_of, losses_of, vs30_cap}
use Rattle.idriss_theory.specs.Evaluation.{distance_term_of, site_term_of}
use Rattle.idriss_theory.specs.Rows.{RowLimits}
use Rattle.idriss_theory.specs.Sizes.{alpha_most, exact_most, distance_term_most, site_term_most}

pub alpha_domain : {a1 a2 a3 m : ℕ} → a1 ≤ 120_000 → a2 ≤ 20_000 → a3 ≤ 1_000 → m ≤ 790 → AlphaDomain a1 a2 a3 m
alpha_domain {m = m} h1 h2 h3 hm =
    let r : 850 - m ≤ 850 = omega arith in
    let s : (850 - m) * (850 - m) ≤ 722_500 = mul-le-mul r r in
    record { first = h1; most = hm; slope = mul-le-mul h2 hm; square = s; bow = mul-le-mul h3 s }

alpha_small : {a1 a2 a3 m : ℕ} → AlphaDomain a1 a2 a3 m → alpha_sum a1 a2 a3 m ≤ alpha_most
unfolding alpha_sum
alpha_small d = omega arith

pub F_small : (mechanism : ℕ) → F mechanism ≤ 1
unfolding F
F_small mechanism =
    by_test (among (2 ∷ 3 ∷ 4 ∷ []) mechanism) (λ x. x ≤ 1) (λ _. omega arith) (λ _. omega arith)

module _ {r : Row} {m : ℕ} (l : RowLimits r) (high : m ≤ 790) where
  pub gains_small : (mechanism : ℕ) → gains_of r m mechanism ≤ exact_most
  unfolding gains_of
  gains_small mechanism =
      let s = alpha_small (alpha_domain l.alpha1_gain l.alpha2_gain l.alpha3_gain high) in
      omega (arith, mul-le-mul l.phi (F_small mechanism))

  pub losses_small : {d : ℕ} → d ≤ 17_500 → losses_of r m d ≤ exact_most
  unfolding losses_of
  losses_small near =
      let s = alpha_small (alpha_domain l.alpha1_loss l.alpha2_loss l.alpha3_loss high) in
      omega (arith, mul-le-mul l.gamma near)

-- β2 M stays below β1, and β1 + β2 M at most 2
pub record BetaBounds (r : Row) (m : ℕ) : Type 0 where
  pub order : 20 * (r.7 * m) ≤ 2_000 * r.6
  pub small : beta_of r m ≤ 40_000_000

pub beta_bounds : {r : Row} {m : ℕ} → RowLimits r → 450 ≤ m → m ≤ 790 → BetaBounds r m
unfolding beta_of
beta_bounds {r} l low high = omega (arith, mul-le-mul_left r.7 low, mul-le-mul_left r.7 high)

pub far_domain : {d : ℕ} → d ≤ 17_500 → LnDomain (d + 1_000) 100
far_domain h = omega arith

pub site_domain : {v : ℕ} → 4_500 ≤ v → LnDomain (min v vs30_cap) 10
site_domain h = omega arith

-- by any ends of a logarithm
pub distance_sized : {r : Row} {m : ℕ} {e : Ends ℕ} → RowLimits r → 450 ≤ m → m ≤ 790 → Sized e ln_width ln_most →
    Sized (distance_term_of r m e) 5 distance_term_most
unfolding distance_term_of
distance_sized l low high s =
    at_most (multiple 40_000_000 (beta_bounds l low high).small (given s)) (size 5 distance_term_most) tt

pub site_sized : {r : Row} {e : Ends ℕ} → RowLimits r → Sized e ln_width ln_most →
    Sized (site_term_of r e) 4 site_term_most
unfolding site_term_of
site_sized l s = at_most (multiple 30_000_000 (omega arith) (given s)) (size 4 site_term_most) tt
