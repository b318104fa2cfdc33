-- What the code takes: from what is known of the pairs, and of each part.
use Rattle.std.specs.Prelude.{ℕ}
use mathlib.Core.Path.{◌≡◌}
use Prim.Native.Nat.{ℕ, ◌+◌, ◌*◌, ◌-◌, ◌^◌, ◌≤◌, ◌<◌}
use native.Mathlib.Nat.{mul-le-mul, mul-le-mul_left, div-le_of_le-mul, zero-mul, zero-div}
use native.Mathlib.Omega.{arith}
use Rattle.interval_theory.specs.declared.Ends.{Ends}
use Rattle.interval_theory.specs.declared.SignedPair.{SignedPair}
use Rattle.interval_theory.specs.Bound.{Bound, SignedWithin, Near}
use Rattle.interpolation_theory.specs.Evaluation.{part_down, Share, PartDomain, InterpolationDomain}

-- no end of a and no end of b are more than d apart
pub interpolation_takes : (a b : SignedPair) {α β : Bound} {τ υ : Ends ℕ} {n d : ℕ} → SignedWithin a α →
    SignedWithin b β → Near d a b → Share n τ υ → α.most < 2 ^ 60 → β.most < 2 ^ 60 → 2 * n ≤ υ.low →
    d * (υ.low + 2 * n) < 2 ^ 64 → InterpolationDomain a b τ υ
interpolation_takes a b {τ = τ} {υ} {n} {d} p q near share hα hβ few small =
    let high : τ.high ≤ υ.low + 2 * n = omega arith in
    let rise : b.gain.high + a.loss.high - (b.loss.low + a.gain.low) ≤ d = omega arith in
    let fall : a.gain.high + b.loss.high - (a.loss.low + b.gain.low) ≤ d = omega arith in
    omega (arith, mul-le-mul rise high, mul-le-mul fall high)

-- ---- each part

-- where nothing rises
pub part_down_none : (x y t u : ℕ) → x ≤ y → part_down x y t u ≡ 0
unfolding part_down
part_down_none x y t u h = let e : x - y ≡ 0 = omega arith in rw (e, zero-mul t) (zero-div u)

-- x exceeds y by d at most, t is s at most, and t/u is 2 at most
takes : (x y t u d s : ℕ) → 1 ≤ u → t ≤ 2 * u → x - y ≤ d → t ≤ s → d * s < 2 ^ 64 → x < 2 ^ 61 → PartDomain x y t u
unfolding part_down
takes x y t u d s some few rise most small low =
    let double : part_down x y t u ≤ 2 * (x - y) =
    div-le_of_le-mul u (omega (arith, mul-le-mul_left (x - y) few)) in
    omega (arith, mul-le-mul rise most, double)

-- the two parts of the low end, and the two of the high one
module _ {a b : SignedPair} {t u : Ends ℕ} (h : InterpolationDomain a b t u) where
  pub rise_takes : PartDomain (b.gain.low + a.loss.high) (a.gain.low + b.loss.high) t.low u.high
  rise_takes =
      takes _ _ _ _ _ t.high (omega arith) (omega arith) (omega arith) h.order h.rise (omega arith)

  pub fall_takes : PartDomain (a.gain.low + b.loss.high) (b.gain.low + a.loss.high) t.high u.low
  fall_takes =
      takes _ _ _ _ _ t.high h.some h.few (omega arith) (omega arith) h.fall (omega arith)

  pub high_rise_takes : PartDomain (b.gain.high + a.loss.low) (a.gain.high + b.loss.low) t.high u.low
  high_rise_takes =
      takes _ _ _ _ _ t.high h.some h.few (omega arith) (omega arith) h.rise (omega arith)

  pub high_fall_takes : PartDomain (a.gain.high + b.loss.low) (b.gain.high + a.loss.low) t.low u.high
  high_fall_takes =
      takes _ _ _ _ _ t.high (omega arith) (omega arith) (omega arith) h.order h.fall (omega arith)
