-- Numbers as text, in ASCII: the digit d is the byte 48 + d, the minus sign 45, the space 32.
use Rattle.std.specs.Prelude.{cond, List, [], ◌∷◌, ◌++◌, ℕ, zero, suc, ◌+◌, ◌/◌, ◌%◌, ltb, ℤ, pos, nat_abs}
use Prim.Native.Char.{code}
use Prim.Native.String.{String, [] as empty, ◌∷◌ as ◌then◌}
use Rattle.std.specs.Int.Signed.{lt_z}

-- the bytes of a text, letter by letter
abbrev pub ascii : String → List ℕ
ascii empty = []
ascii (letter then text) = code letter ∷ ascii text

-- the decimal digits of n, the last k of them if there are more: those of n / 10, if n has more than one, then the last
unfoldable pub digits_by : ℕ → ℕ → List ℕ
digits_by zero n = []
digits_by (suc k) n = cond (ltb n 10) [] (digits_by k (n / 10)) ++ ((48 + n % 10) ∷ [])

-- 20 digits hold every number of 64 bits
abbrev pub places : ℕ
places = 20

-- "decimal"
unfoldable pub decimal : ℕ → List ℕ
decimal n = digits_by places n

-- "Ends are decimal, with a minus sign in front where negative"
unfoldable pub signed_decimal : ℤ → List ℕ
signed_decimal z = cond (lt_z z (pos 0)) (45 ∷ []) [] ++ decimal (nat_abs z)

-- words, each with a single space before it
unfoldable pub spaced : List (List ℕ) → List ℕ
spaced [] = []
spaced (w ∷ ws) = 32 ∷ (w ++ spaced ws)
