-- The greatest number that passes a test, a search for it, and the first one that passes.
use mathlib.Core.Path.{◌≡◌, refl}
use mathlib.Core.Bool.{Bool, true, false, not}
use Prim.Native.Nat.{ℕ, zero, suc, ◌+◌, ◌≤◌, ◌<◌}
use native.Mathlib.Decide.{dec_le, dec_lt}
use native.Mathlib.Omega.{arith}
use lib.Dec.{T, T_not, not_T}
use Rattle.toolbox_theory.proofs.Tests.{by_test}
use Rattle.millionths_theory.specs.Evaluation.{greatest_passing, first_passing}

module _ (test : ℕ → Bool) where
  pub at_most : (n : ℕ) → greatest_passing test n ≤ n
  unfolding greatest_passing
  at_most zero = omega arith
  at_most (suc n) = by_test (test (suc n)) (λ g. g ≤ suc n) (λ _. omega arith) (λ _. omega (arith, at_most n))

  -- it passes, unless it is 0
  pub passes : (n : ℕ) → 1 ≤ greatest_passing test n → T (test (greatest_passing test n))
  unfolding greatest_passing
  passes zero h = absurd (omega arith)
  passes (suc n) h = by_test (test (suc n)) (λ g. 1 ≤ g → T (test g)) (λ t _. t) (λ _. passes n) h

  -- and nothing that passes is greater
  pub passed : (n k : ℕ) → k ≤ n → T (test k) → k ≤ greatest_passing test n
  unfolding greatest_passing
  passed zero k h t = omega arith
  passed (suc n) k h t =
      by_test (test (suc n)) (λ g. k ≤ g) (λ _. h)
      (λ f. elim (dec_le k n) [
        | yes l ↦ passed n k l t
        | no l ↦ let e : k ≡ suc n = omega arith in absurd (T_not (test (suc n)) f (rw e at t))
      ])

  pub next_fails : (n : ℕ) → greatest_passing test n < n → T (not (test (suc (greatest_passing test n))))
  next_fails n h =
      let next = suc (greatest_passing test n) in not_T (test next) (λ t. absurd (omega (arith, passed n next h t)))

-- what passes, all before it pass
abbrev pub Falls : ℕ → (ℕ → Bool) → Type 0
Falls n test = (j k : ℕ) → 1 ≤ j → j ≤ k → k ≤ n → T (test k) → T (test j)

-- then what fails is greater
pub failed : (test : ℕ → Bool) (n : ℕ) → Falls n test → (k : ℕ) → 1 ≤ k → T (not (test k)) → greatest_passing test n < k
failed test n falls k h t = elim (dec_lt (greatest_passing test n) k) [
  | yes l ↦ l
  | no l ↦
      let g = greatest_passing test n in
      absurd (T_not (test k) t (falls k g h (omega arith) (at_most test n) (passes test n (omega arith))))
]

-- ---- a search for it

-- it is from low on and before high
pub record Sought (test : ℕ → Bool) (n low high : ℕ) : Type 0 where
  pub from : low ≤ greatest_passing test n
  pub before : greatest_passing test n < high
  pub few : high ≤ suc n

pub sought : (test : ℕ → Bool) (n : ℕ) → Sought test n 0 (suc n)
sought test n = omega (arith, at_most test n)

-- what is tried between them takes the place of the one or of the other
pub tried : {test : ℕ → Bool} {n low high k : ℕ} {b : Bool} → Falls n test → Sought test n low high → low < k →
    k < high → b ≡ test k → (b ≡ true → Sought test n k high) × (b ≡ false → Sought test n low k)
tried {test} {n} {k = k} falls s h l e = (
  λ t. omega (arith, s, passed test n k (omega (arith, s)) (rw (← e, t) tt)),
  λ t. omega (arith, s, failed test n falls k (omega arith) (rw (← e, t) tt)),
)

-- ---- the first

module _ (test : ℕ → Bool) where
  -- it is not before what it begins with
  pub from_start : (n k : ℕ) → k ≤ first_passing test n k
  unfolding first_passing
  from_start zero k = omega arith
  from_start (suc n) k =
      by_test (test k) (λ f. k ≤ f) (λ _. omega arith) (λ _. omega (arith, from_start n (suc k)))

  -- it comes after so many at most, and passes unless it does
  pub soon : (n k : ℕ) → first_passing test n k ≤ k + n
  unfolding first_passing
  soon zero k = omega arith
  soon (suc n) k = by_test (test k) (λ f. f ≤ k + suc n) (λ _. omega arith) (λ _. omega (arith, soon n (suc k)))

  pub first_passes : (n k : ℕ) → first_passing test n k < k + n → T (test (first_passing test n k))
  unfolding first_passing
  first_passes zero k h = absurd (omega arith)
  first_passes (suc n) k h =
      by_test (test k) (λ f. f < k + suc n → T (test f)) (λ t _. t) (λ _ l. first_passes n (suc k) (omega arith)) h

  -- those before it fail
  pub before_fails : (n k j : ℕ) → k ≤ j → j < first_passing test n k → T (not (test j))
  unfolding first_passing
  before_fails zero k j h l = absurd (omega arith)
  before_fails (suc n) k j h l =
      by_test (test k) (λ f. j < f → T (not (test j))) (λ _ m. absurd (omega arith))
      (λ t m. elim (dec_lt k j) [
        | yes g ↦ before_fails n (suc k) j g m
        | no g ↦ let e : j ≡ k = omega arith in rw e t
      ]) l

  -- the first from k on, step by step: k, where it passes or none is left, else the first after it
  pub first_here : (n k : ℕ) → not (test k) ≡ false → first_passing test n k ≡ k
  unfolding first_passing
  first_here zero k t = refl
  first_here (suc n) k t = by_test (test k) (λ f. f ≡ k) (λ _. refl) (λ u. absurd (rw t at u))

  pub first_none : (k : ℕ) → first_passing test 0 k ≡ k
  unfolding first_passing
  first_none k = refl

  pub first_next : (n k : ℕ) → not (test k) ≡ true → first_passing test (suc n) k ≡ first_passing test n (suc k)
  unfolding first_passing
  first_next n k t =
      by_test (test k) (λ f. f ≡ first_passing test n (suc k)) (λ u. absurd (T_not (test k) (rw t tt) u)) (λ _. refl)
