-- How wide and how large the logarithm's ends are.
use Prim.Native.Nat.{◌+◌, ℕ, ◌*◌, ◌-◌, ◌^◌, ◌≤◌, ◌<◌}
use native.Mathlib.Nat.{mul-le-mul_left, le_of_mul-le-mul_right}
use native.Mathlib.Omega.{arith}
use Rattle.interval_theory.specs.Natural.{unit}
use Rattle.interval_theory.specs.Bound.{Within, Sized, upward}
use Rattle.interval_theory.proofs.NaturalBounds.{upward_enough}
use Rattle.interval_theory.proofs.Bounded.{Bounded}
use Rattle.logarithm_theory.specs.Promise.{LnDomain, ln_width}
use Rattle.logarithm_theory.specs.Evaluation.{ln_of}
use Rattle.logarithm_theory.specs.Bound.{ln_most, ln_bound, ln_between}
use Rattle.logarithm_theory.proofs.Laws.{ln_of_rounded, ln_of_most}
use Rattle.logarithm_theory.proofs.Chain.{ln_of_chain}

pub ln_sized : {a b : ℕ} → LnDomain a b → Sized (ln_of a b) ln_width ln_most
ln_sized d = (ln_of_rounded d).sized

pub ln_within : {a b : ℕ} → LnDomain a b → (a₁ b₀ : ℕ) → a ≤ a₁ → b₀ ≤ b → 1 ≤ b₀ → Within (ln_of a b) (ln_bound a₁ b₀)
ln_within {a} {b} d a₁ b₀ ha hb some =
    let n : ℕ = (a₁ - b₀) * unit in
    let f : (ln_of a b).low * b ≤ upward n b₀ * b =
    omega (arith, upward_enough n b₀ some, mul-le-mul_left (upward n b₀) hb, ln_of_most d) in
    omega (arith, ln_sized d, le_of_mul-le-mul_right f d.least)

-- with its bound
abbrev pub logarithm : {a b : ℕ} (a₁ b₀ : ℕ) → LnDomain a b → a ≤ a₁ → b₀ ≤ b → 1 ≤ b₀ → Bounded (ln_of a b)
logarithm a₁ b₀ d p q r = record { bound = ln_bound a₁ b₀; within = ln_within d a₁ b₀ p q r }

-- ---- between the logarithms at the ends

pub record Between (a b a₀ a₁ b₀ b₁ : ℕ) : Type 0 where
  pub from : a₀ ≤ a
  pub to : a ≤ a₁
  pub over : b₀ ≤ b
  pub under : b ≤ b₁
  pub some : 1 ≤ b₀
  pub order : b₁ ≤ a₀
  pub small : a₁ < 2 ^ 29

-- from a/b to a'/b', which is not less
rise : {a b a' b' : ℕ} → LnDomain a' b' → b' ≤ b → b ≤ a → a ≤ a' → (ln_of a b).low ≤ (ln_of a' b').high + ln_width
rise {a} {b' = b'} d hb hab ha =
    let inner : LnDomain a b' = omega arith in
    omega (arith, ln_sized inner, (ln_of_chain inner hb hab).low, (ln_of_chain d inner.order ha).low)

pub ln_between_lem : {a b a₀ a₁ b₀ b₁ : ℕ} → Between a b a₀ a₁ b₀ b₁ → Within (ln_of a b) (ln_between a₀ a₁ b₀ b₁)
ln_between_lem {a} {b} {a₁ = a₁} {b₀} h =
    let d : LnDomain a b = omega arith in
    let most : LnDomain a₁ b₀ = omega arith in
    omega (arith, ln_sized d, rise most h.over d.order h.to, rise d h.under h.order h.from)
