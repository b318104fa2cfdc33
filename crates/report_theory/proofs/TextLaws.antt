-- Laws of numbers as text: how many digits, one digit more, and no digit is lost.
use mathlib.Core.Path.{◌≡◌, refl, ap, ◌∙◌}
use mathlib.Core.Bool.{Bool, true, false, cond}
use mathlib.Core.List.{List, [], ◌∷◌, ◌++◌}
use Prim.Native.Nat.{ℕ, zero, suc, ◌+◌, ◌*◌, ◌-◌, ◌/◌, ◌%◌, ◌^◌, ◌≤◌, ◌<◌}
use native.Mathlib.Omega.{arith}
use native.Mathlib.Nat.{le_refl}
use borrow.Author.Tests.{ltb-true, lt-ltb, le-ltb}
use lib.Dec.{ltb}
use lib.ListN.{length, length-append}
use Rattle.report_theory.specs.Text.{digits_by, places, decimal}

-- what the test says of either list holds of the one that is taken
either : (P : List ℕ → Type 0) {x y : List ℕ} (b : Bool) → (b ≡ true → P x) → (b ≡ false → P y) → P (cond b x y)
either P true f g = f refl
either P false f g = g refl

-- ---- how many

pub digits_most : (k n : ℕ) → length (digits_by k n) ≤ k
unfolding digits_by
digits_most zero n = le_refl 0
digits_most (suc k) n =
    either (λ (d : List ℕ). length (d ++ ((48 + n % 10) ∷ [])) ≤ suc k) (ltb n 10) (λ _. omega arith)
    (λ _. rw length-append (omega (arith, digits_most k (n / 10))))

pub decimal_most : (n : ℕ) → length (decimal n) ≤ places
unfolding decimal
decimal_most n = digits_most places n

-- ---- one digit more

-- room for more digits than there are makes no difference
room : (k n : ℕ) → n < 10 ^ suc k → digits_by (suc (suc k)) n ≡ digits_by (suc k) n
unfolding digits_by
room zero n h = rw (lt-ltb n 10 h) refl
room (suc k) n h = ap (λ (d : List ℕ). cond (ltb n 10) [] d ++ ((48 + n % 10) ∷ [])) (room k (n / 10) (omega arith))

pub one_digit : (n : ℕ) → n < 10 → decimal n ≡ (48 + n) ∷ []
unfolding decimal digits_by
one_digit n h = let e : n % 10 ≡ n = omega arith in rw (lt-ltb n 10 h, e) refl

step : (k n : ℕ) → 10 ≤ n → n < 10 ^ suc (suc k) →
    digits_by (suc (suc k)) n ≡ digits_by (suc (suc k)) (n / 10) ++ ((48 + n % 10) ∷ [])
unfolding digits_by
step k n least most = rw (le-ltb n 10 least) (rw (room k (n / 10) (omega arith)) refl)

pub more_digits : (n : ℕ) → 10 ≤ n → n < 2 ^ 64 → decimal n ≡ decimal (n / 10) ++ ((48 + n % 10) ∷ [])
unfolding decimal
more_digits n least most = let room : 2 ^ 64 ≤ 10 ^ places = omega arith in step (places - 2) n least (omega arith)

pub more_length : (n : ℕ) → 10 ≤ n → n < 2 ^ 64 → length (decimal n) ≡ length (decimal (n / 10)) + 1
more_length n least most = rw (more_digits n least most) (length-append (decimal (n / 10)) ((48 + n % 10) ∷ []))

-- what the digits of a number are and how many, by those of its tenth
pub ruleset digit_steps = (decimal_most, one_digit, more_digits, more_length)

-- ---- no digit is lost

-- the number that digits make, after the value v of those before them
unfoldable pub read_decimal : ℕ → List ℕ → ℕ
read_decimal v [] = v
read_decimal v (d ∷ ds) = read_decimal (10 * v + (d - 48)) ds

read_last : (v : ℕ) (a : List ℕ) (d : ℕ) → read_decimal v (a ++ (d ∷ [])) ≡ 10 * read_decimal v a + (d - 48)
unfolding read_decimal
read_last v [] d = refl
read_last v (x ∷ a) d = read_last (10 * v + (x - 48)) a d

last_digit : (v n : ℕ) → v ≡ n / 10 → 10 * v + (48 + n % 10 - 48) ≡ n
last_digit v n e = omega arith

digits_read : (k n : ℕ) → n < 10 ^ suc k → read_decimal 0 (digits_by (suc k) n) ≡ n
unfolding digits_by read_decimal
digits_read zero n h = rw (lt-ltb n 10 h) (read_last 0 [] (48 + n % 10) ∙ last_digit 0 n (omega arith))
digits_read (suc k) n h =
    rw read_last (last_digit _ n (either (λ (d : List ℕ). read_decimal 0 d ≡ n / 10) (ltb n 10)
    (λ e. omega (arith, ltb-true n 10 e)) (λ _. digits_read k (n / 10) (omega arith))))

-- the digits of n, read as a number, are n
pub decimal_reads : (n : ℕ) → n < 10 ^ places → read_decimal 0 (decimal n) ≡ n
unfolding decimal
decimal_reads n h = digits_read (places - 1) n h
