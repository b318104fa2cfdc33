-- The last arm of a match that reads a table: a number that is none of those before n is n or more, and the table's
-- last entry stands there.
use mathlib.Core.Path.{◌≡◌, refl}
use mathlib.Core.List.{List, [], ◌∷◌, ◌++◌}
use Prim.Native.Nat.{ℕ, zero, suc, ◌≤◌, ◌<◌}
use native.Mathlib.Nat.{le_of_suc-le-suc, not-suc-le-zero}
use native.Mathlib.Omega.{arith}
use lib.ListN.{length, get_or}

-- i is none of 0 to n − 1, as a match has it
abbrev pub Missed : ℕ → ℕ → Type 0
Missed i zero = Unit {0}
Missed i (suc n) = Missed i n × (i ≡ n → ⊥)

missed : (i n : ℕ) → Missed i n → n ≤ i
missed i zero m = omega arith
missed i (suc n) m = omega (arith, missed i n m.0)

-- where only n is left, it is n
pub only_last : {i : ℕ} (n : ℕ) → i < suc n → Missed i n → i ≡ n
only_last {i = i} n h m = omega (arith, missed i n m)

past : {A : Type 0} (d : A) (xs : List A) (i : ℕ) → length xs ≤ i → d ≡ get_or (xs ++ (d ∷ [])) i d
past d [] zero h = refl
past d [] (suc i) h = refl
past d (x ∷ xs) zero h = absurd (not-suc-le-zero h)
past d (x ∷ xs) (suc i) h = past d xs i (le_of_suc-le-suc h)

pub last : {A : Type 0} (d : A) (xs : List A) (i : ℕ) → Missed i (length xs) → d ≡ get_or (xs ++ (d ∷ [])) i d
last d xs i m = past d xs i (missed i (length xs) m)
