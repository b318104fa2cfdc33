use mathlib.Core.Path.{◌≡◌, refl, sym, ◌∙◌}
use mathlib.Core.List.{List}
use Prim.Native.Nat.{ℕ, ◌-◌}
use native.Mathlib.Nat.{le_refl, zero-add}
use native.Mathlib.Omega.{arith}
use lib.ListN.{length, take, drop, length-drop}
use lib.Seq.{take_all}
use Rattle.record_theory.proofs.ReadingLaws.{read_as, not_read}
use Rattle.record_reading.proofs.rest.Goals as goal

-- a part that begins at n and ends with s
all_after : (s : List ℕ) (n : ℕ) → take (length s - n) (drop n s) ≡ drop n s
all_after s n = take_all (length s - n) (drop n s) (rw length-drop (le_refl (length s - n)))

pub slice_bounds-result-count : goal.slice_bounds-result-count
slice_bounds-result-count c = omega (arith, read_as _ _ _ (sym c.read.ensures.value ∙ c.in-Ok.is))

pub slice_bounds-result-start : goal.slice_bounds-result-start
slice_bounds-result-start c = omega (arith, read_as _ _ _ (sym c.read.ensures.value ∙ c.in-Ok.is))

pub returns-in-Ok-clause-result_value : goal.returns-in-Ok-clause-result_value
returns-in-Ok-clause-result_value c =
    let r = read_as _ _ _ (sym c.read.ensures.value ∙ c.in-Ok.is) in rw (r.rest, all_after) refl

pub returns-in-Ok-clause-ref_ptr_value : goal.returns-in-Ok-clause-ref_ptr_value
returns-in-Ok-clause-ref_ptr_value c =
    let r = read_as _ _ _ (sym c.read.ensures.value ∙ c.in-Ok.is) in rw r.place refl

pub returns-in-Err-clause-result_value : goal.returns-in-Err-clause-result_value
returns-in-Err-clause-result_value c = sym (not_read _ _ (sym c.read.ensures.value ∙ c.in-Err.is)).rest

pub returns-in-Err-clause-ref_ptr_value : goal.returns-in-Err-clause-ref_ptr_value
returns-in-Err-clause-ref_ptr_value c =
    let r = not_read _ _ (sym c.read.ensures.value ∙ c.in-Err.is) in rw (r.place, zero-add) refl
