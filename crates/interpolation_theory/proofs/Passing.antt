-- A loop over the rows from k on, which keeps the values by the last two that it has passed: what it has before row i.
use mathlib.Core.Path.{◌≡◌, refl, ◌∙◌}
use mathlib.Core.Bool.{cond}
use Prim.Native.Nat.{ℕ, ◌+◌, ◌-◌, ◌≤◌}
use native.Mathlib.Decide.{dec_lt}
use native.Mathlib.Omega.{arith}
use borrow.Author.Tests.{lt-ltb, le-ltb}
use lib.Dec.{ltb}
use Rattle.interval_theory.specs.declared.SignedPair.{SignedPair}
use Rattle.interpolation_theory.specs.declared.TwoRows.{TwoRows}
use Rattle.interpolation_theory.specs.Evaluation.{no_pair, two_rows_of}

pub record Passed (k : ℕ) (by_row : ℕ → SignedPair) (lower upper : SignedPair) (i : ℕ) : Type 0 where
  pub from : k ≤ i
  pub upper_is : upper ≡ cond (ltb k i) (by_row (i - 1)) no_pair
  pub lower_is : lower ≡ cond (ltb (k + 1) i) (by_row (i - 2)) no_pair

shifted : (k i : ℕ) → ltb (k + 1) (i + 1) ≡ ltb k i
shifted k i = elim (dec_lt k i) [
  | yes h ↦ rw (lt-ltb k i h) (lt-ltb (k + 1) (i + 1) (omega arith))
  | no h ↦ rw (le-ltb k i (omega arith)) (le-ltb (k + 1) (i + 1) (omega arith))
]

module _ (k : ℕ) (by_row : ℕ → SignedPair) where
  pub none_passed : {lower upper : SignedPair} → lower ≡ no_pair → upper ≡ no_pair → Passed k by_row lower upper k
  none_passed e f =
      rw (e, f) (record {
        from = omega arith;
        upper_is = rw (le-ltb k k (omega arith)) refl;
        lower_is = rw (le-ltb (k + 1) k (omega arith)) refl;
      })

  -- one row later the upper is the lower
  pub one_passed : {lower upper after : SignedPair} (i : ℕ) → Passed k by_row lower upper i → after ≡ by_row i →
      Passed k by_row upper after (i + 1)
  one_passed i p e =
      let here : i + 1 - 1 ≡ i = omega arith in
      let before : i + 1 - 2 ≡ i - 1 = omega arith in
      record {
        from = omega arith;
        upper_is = e ∙ rw (lt-ltb k (i + 1) (omega arith), here) refl;
        lower_is = p.upper_is ∙ rw (before, shifted k i) refl;
      }

  pub all_passed : {lower upper : SignedPair} (last : ℕ) → k ≤ last → Passed k by_row lower upper (last + 1) →
      ◌≡◌ {A = TwoRows} (record { lower = lower; upper = upper }) (two_rows_of k last by_row)
  unfolding two_rows_of
  all_passed last h p =
      let here : last + 1 - 1 ≡ last = omega arith in
      let before : last + 1 - 2 ≡ last - 1 = omega arith in
      let upper_is = rw (lt-ltb k (last + 1) (omega arith), here) at p.upper_is in
      let lower_is = rw (shifted k last, before) at p.lower_is in
      rw (upper_is, lower_is) refl
