-- Laws of the first number that applies.
use mathlib.Core.Path.{◌≡◌, refl}
use mathlib.Core.Bool.{Bool, true, false}
use mathlib.Core.Logic.{◌⊎◌, inl, inr}
use Prim.Native.Nat.{ℕ, zero, suc}
use native.Mathlib.Omega.{arith}
use Rattle.scenario_theory.specs.Checks.{◌when◌, ◌otherwise◌, unless_refused}

-- a number that applies comes first
pub is_first : (j k : ℕ) → (j ≡ 0 → ⊥) → j ≡ (j otherwise k)
is_first zero k h = absurd (h refl)
is_first (suc j) k h = refl

-- the first of three
pub first_of_three : (i j k : ℕ) → ((i otherwise j) otherwise k) ≡ (i otherwise j otherwise k)
first_of_three zero j k = refl
first_of_three (suc i) j k = refl

-- where none applies, neither of two does
pub none_of : (j k : ℕ) → (j otherwise k) ≡ 0 → (j ≡ 0) × (k ≡ 0)
none_of zero k e = (refl, e)
none_of (suc j) k e = absurd (omega arith)

pub not_when : (k : ℕ) (b : Bool) → (suc k when b) ≡ 0 → b ≡ false
not_when k true e = absurd (omega arith)
not_when k false e = refl

-- ---- a where the number is 0, else b

pub is_refused : {A : Type 0} (k : ℕ) (a b : A) → (k ≡ 0 → ⊥) → b ≡ unless_refused k a b
is_refused zero a b h = absurd (h refl)
is_refused (suc k) a b h = refl

-- it is one of them
pub unless_is : {A : Type 0} (k : ℕ) {a b r : A} → unless_refused k a b ≡ r →
    ((k ≡ 0) × (a ≡ r)) ⊎ ((k ≡ 0 → ⊥) × (b ≡ r))
unless_is zero e = inl (refl, e)
unless_is (suc k) e = inr (λ z. absurd (omega arith), e)

-- a function of it
pub of_unless : {A B : Type 0} (f : A → B) (k : ℕ) (a b : A) →
    f (unless_refused k a b) ≡ unless_refused k (f a) (f b)
of_unless f zero a b = refl
of_unless f (suc k) a b = refl

-- what holds of either holds of it
pub by_number : {A : Type 0} (P : A → Type 0) (k : ℕ) {a b : A} → (k ≡ 0 → P a) → ((k ≡ 0 → ⊥) → P b) →
    P (unless_refused k a b)
by_number P zero f g = f refl
by_number P (suc k) f g = g (λ z. omega arith)
