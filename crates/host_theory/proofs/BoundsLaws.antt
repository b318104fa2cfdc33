-- The promise of the millionths that C is told.
use mathlib.Core.Path.{◌≡◌, refl, ap}
use mathlib.Core.List.{[]}
use Prim.Native.Nat.{ℕ}
use native.Mathlib.Omega.{arith}
use lib.ListN.{length, get_or}
use Rattle.std.specs.Prelude.{Ok, Err}
use Rattle.scenario_theory.specs.declared.Scenario.{Scenario}
use Rattle.scenario_theory.specs.Refusal.{refusal_of}
use Rattle.millionths_theory.specs.Promise.{MillionthsAnswer, BoundsMedian, MillionthsPromise}
use Rattle.millionths_theory.specs.Evaluation.{millionths_of}
use Rattle.millionths_theory.proofs.Laws.{answers}
use Rattle.host_theory.specs.declared.HostBounds.{HostBounds}
use Rattle.host_theory.specs.Told.{told_bounds}
use Rattle.host_theory.specs.Promise.{HostBoundsPromise}

-- no values are not two
none_bound : {s : Scenario} → BoundsMedian s [] → ⊥
none_bound h = absurd (omega (arith, ap length h.two))

bounds_promised : {k : ℕ} {s : Scenario} (r : MillionthsAnswer) → MillionthsPromise k s r →
    HostBoundsPromise k s (told_bounds r)
bounds_promised (Ok m) p = record {
  number = p.number;
  between = λ z.
      let b = p.between z in
      let low : m.low ≡ b.a = ap (λ l. get_or l 0 0) b.two in
      let high : m.high ≡ b.b = ap (λ l. get_or l 1 0) b.two in
      rw (← low, ← high) at b.bounds;
  zeros = λ h. absurd (h (omega arith));
}
bounds_promised (Err r) p =
    record { number = p.number; between = λ z. absurd (none_bound (p.between z)); zeros = λ _. (refl, refl) }

-- every struct of which a contract says `r ≡ ..` keeps it
pub bounds_told : {r : HostBounds} (s : Scenario) → r ≡ told_bounds (millionths_of s) →
    (r ≡ told_bounds (millionths_of s)) × HostBoundsPromise (refusal_of s) s r
bounds_told s e = (e, rw e (bounds_promised (millionths_of s) (answers s refl).1))
