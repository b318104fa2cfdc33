-- What a `?` passes on, and what `ok_or` makes of an option.
use mathlib.Core.Path.{◌≡◌, refl, sym, ap, ◌∙◌}
use Prim.Native.Nat.{ℕ}
use native.Mathlib.Omega.{arith}
use Rattle.std.specs.Prelude.{Option, Some, None, Result, Ok, Err, ok_or, IsErr, IsErrAnd}
use Rattle.std.proofs.lemmas.Result.{err_from_is_err_and}

-- the error of the call, where it is not converted
pub passed_on : {A E : Type 0} {r : Result A E} {e : E} → IsErr r × IsErrAnd r (λ d. d ≡ e) → r ≡ Err e
passed_on {r = r} h =
    let p = err_from_is_err_and r h.1 in
    p.1 ∙ ap Err p.2

module _ {A E : Type 0} where
  abbrev is_ok : Result A E → ℕ
  is_ok (Ok x) = 0
  is_ok (Err e) = 1

  err_is_not_ok : {x : A} {e : E} → ◌≡◌ {A = Result A E} (Err e) (Ok x) → ⊥
  err_is_not_ok p = let z : ◌≡◌ {A = ℕ} 1 0 = ap is_ok p in omega arith

  pub ok_or_some : (o : Option A) (e : E) {x : A} → ok_or o e ≡ Ok x → o ≡ Some x
  ok_or_some None e p = absurd (err_is_not_ok p)
  ok_or_some (Some y) e {x} p = let same : y ≡ x = cc in ap Some same

  pub ok_or_none : (o : Option A) (e : E) {d : E} → ok_or o e ≡ Err d → (o ≡ None) × (d ≡ e)
  ok_or_none None e {d} p = (refl, cc)
  ok_or_none (Some x) e p = absurd (err_is_not_ok (sym p))
