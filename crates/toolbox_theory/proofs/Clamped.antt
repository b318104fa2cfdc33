-- A place past a table's end is read as the last.
use mathlib.Core.Path.{◌≡◌, sym, ◌∙◌}
use mathlib.Core.List.{List}
use Prim.Native.Nat.{ℕ, suc, min}
use native.Mathlib.Decide.{dec_lt}
use native.Mathlib.Omega.{arith}
use lib.ListN.{length, get_or}
use Rattle.std.proofs.lemmas.List.{get_or_default, get_or_past}

pub clamped : {A : Type 0} (xs : List A) (n i : ℕ) (d e : A) → length xs ≡ suc n → get_or xs n e ≡ e →
    get_or xs (min i n) d ≡ get_or xs i e
clamped xs n i d e size last = elim (dec_lt n i) [
  | yes h ↦
      let p : min i n ≡ n = omega arith in
      rw p (get_or_default xs n d e (omega arith) ∙ last ∙ sym (get_or_past xs i e (omega arith)))
  | no h ↦ let p : min i n ≡ i = omega arith in rw p (get_or_default xs i d e (omega arith))
]
