-- A number's bytes, and the number of bytes: each undoes the other, for any width.
use mathlib.Core.Path.{◌≡◌, refl, ap}
use mathlib.Core.List.{List, [], ◌∷◌, ◌++◌}
use Prim.Native.Nat.{ℕ, zero, suc, ◌+◌, ◌*◌, ◌/◌, ◌%◌, ◌^◌, ◌≤◌, ◌<◌}
use native.Mathlib.Nat.{le_of_suc-le-suc, not-suc-le-zero}
use native.Mathlib.Omega.{arith}
use lib.ListN.{length, take, drop}
use lib.Seq.{get_or-drop}
use Rattle.std.specs.Int.{w16, to_le_bytes}
use Rattle.record_theory.specs.Layout.{Bytes, bytes_of, number_of}

pub bytes_drop : (n : ℕ) (s : List ℕ) → Bytes s → Bytes (drop n s)
bytes_drop n s h i = rw get_or-drop (h (n + i))

pub bytes_length : (w x : ℕ) → length (bytes_of w x) ≡ w
bytes_length zero x = refl
bytes_length (suc zero) x = refl
bytes_length (suc (suc w)) x = ap suc (bytes_length (suc w) (x / 256))

-- a number has the bytes that are its own
pub number_back : (w x : ℕ) → number_of (bytes_of (suc w) x) ≡ x
number_back zero x = omega arith
number_back (suc w) x = rw (number_back w (x / 256)) (omega arith)

-- and bytes are those of their number
pub bytes_back : (w : ℕ) (s : List ℕ) → Bytes s → w ≤ length s → bytes_of w (number_of (take w s)) ≡ take w s
bytes_back zero s h l = refl
bytes_back (suc w) [] h l = absurd (not-suc-le-zero l)
bytes_back (suc zero) (a ∷ s) h l = ap (λ (x : ℕ). x ∷ []) (omega arith)
bytes_back (suc (suc w)) (a ∷ s) h l =
    let n = number_of (take (suc w) s) in
    let low : (a + 256 * n) % 256 ≡ a = omega (arith, h 0) in
    let high : (a + 256 * n) / 256 ≡ n = omega (arith, h 0) in
    rw (low, high, bytes_back (suc w) s (λ i. h (suc i)) (le_of_suc-le-suc l))

-- two bytes as the library has them
pub le_bytes : (x : ℕ) → x < 65_536 → to_le_bytes w16 x ≡ bytes_of 2 x
le_bytes x h = let high : x / 256 % 256 ≡ x / 256 = omega arith in rw high refl

-- ---- lists of bytes

pub bytes_none : Bytes []
bytes_none i = omega arith

pub bytes_cons : (a : ℕ) (s : List ℕ) → a < 256 → Bytes s → Bytes (a ∷ s)
bytes_cons a s h g zero = h
bytes_cons a s h g (suc i) = g i

pub bytes_append : (s t : List ℕ) → Bytes s → Bytes t → Bytes (s ++ t)
bytes_append [] t h g = g
bytes_append (a ∷ s) t h g = bytes_cons a (s ++ t) (h 0) (bytes_append s t (λ i. h (suc i)) g)

-- the bytes of a number that fits the width
pub bytes_fit : (w x : ℕ) → x < 256 ^ w → Bytes (bytes_of w x)
bytes_fit zero x h = bytes_none
bytes_fit (suc zero) x h = bytes_cons x [] h bytes_none
bytes_fit (suc (suc w)) x h =
    bytes_cons (x % 256) (bytes_of (suc w) (x / 256)) (omega arith)
    (bytes_fit (suc w) (x / 256) (omega arith))
