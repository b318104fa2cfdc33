-- What the code puts together is what the evaluation has.
use Rattle.std.specs.Prelude.{ℕ}
use mathlib.Core.Path.{◌≡◌, refl, sym, ◌∙◌}
use Prim.Native.Nat.{ℕ, ◌≤◌, ◌<◌}
use native.Mathlib.Decide.{dec_le}
use native.Mathlib.Nat.{zero-mul}
use native.Mathlib.Omega.{arith}
use borrow.Author.Tests.{le-leb, lt-leb, lt-ltb, le-ltb}
use Rattle.interval_theory.specs.declared.Ends.{Ends}
use Rattle.interval_theory.specs.declared.SignedPair.{SignedPair}
use Rattle.interval_theory.specs.Bound.{Bound, Within, SignedWithin}
use Rattle.interval_theory.specs.Natural.{product_of, hull_of}
use Rattle.boore_atkinson_theory.specs.declared.SiteRow.{SiteRow}
use Rattle.boore_atkinson_theory.specs.Tables.{Vref, V2, V1}
use Rattle.boore_atkinson_theory.specs.Evaluation.{minus_p_of, flat_from, slope_of, branch_of, curve_for}
use Rattle.boore_atkinson_theory.specs.Evaluation.{nonlinear_by, nonlinear_of}

-- what is equal to a pair has its bound
pub as_sized : {x y : Ends ℕ} {β : Bound} → x ≡ y → Within y β → (x ≡ y) × Within x β
as_sized e h = (e, rw e h)

pub as_signed : {x y : SignedPair} {β : Bound} → x ≡ y → SignedWithin y β → (x ≡ y) × SignedWithin x β
as_signed e h = (e, rw e h)

-- ---- the branches, by where b reaches

module _ (b t A B : Ends ℕ) {r : Ends ℕ} where
  pub branch_from_is : t.low ≤ b.high → t.high ≤ b.low → r ≡ A → r ≡ branch_of b t A B
  unfolding branch_of
  branch_from_is h k e = rw (le-leb t.low b.high h, le-ltb b.low t.high k) e

  pub branch_below_is : b.high < t.low → r ≡ B → r ≡ branch_of b t A B
  unfolding branch_of
  branch_below_is h e = rw (lt-leb t.low b.high h) e

  pub branch_both_is : {x y : Ends ℕ} → t.low ≤ b.high → b.low < t.high → x ≡ A → y ≡ B → r ≡ hull_of x y →
      r ≡ branch_of b t A B
  unfolding branch_of
  branch_both_is h k ex ey e = rw (le-leb t.low b.high h, lt-ltb b.low t.high k, ← ex, ← ey) e

-- ---- where p has no part

-- from 760 m/s on the slope is 0, and the nonlinear part, for every p, is what the roundings leave
abbrev one : Ends ℕ
one = record { low = 0; high = 1 }

pub flat : (s : SiteRow) (v : ℕ) (q : Ends ℕ) → Vref ≤ v → record { gain = one; loss = one } ≡ nonlinear_by s v q
unfolding nonlinear_by slope_of product_of
flat s v q h = rw (lt-leb v V1 (omega arith), lt-leb v V2 (omega arith), le-ltb v Vref h) (simp zero-mul)

-- so what all rows have in common is enough
pub curve_for_lem : (s : SiteRow) (v m d mechanism : ℕ) →
    nonlinear_by s v (curve_for v m d mechanism) ≡ nonlinear_of s v (minus_p_of m d mechanism)
unfolding curve_for
curve_for_lem s v m d mechanism = elim (dec_le flat_from v) [
  | yes h ↦ sym (flat s v _ h) ∙ flat s v _ h
  | no h ↦ rw (lt-leb flat_from v (omega arith)) refl
]
