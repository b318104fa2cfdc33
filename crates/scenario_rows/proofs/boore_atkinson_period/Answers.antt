-- The row PGA stands before the first period.
use Rattle.std.proofs.Common.{◌≡◌, refl, ℕ, zero, suc, ◌-◌, List, ◌∷◌, get_or}
use native.Mathlib.Omega.{arith}
use Rattle.scenario_theory.specs.Refusal.{boore_atkinson}
use Rattle.scenario_rows.proofs.boore_atkinson_period.Goals as goal

before : (l : List ℕ) (k : ℕ) → (k ≡ 0 → ⊥) → get_or l (k - 1) 0 ≡ get_or (0 ∷ l) k 0
before l zero some = absurd (some refl)
before l (suc k) some = let e : suc k - 1 ≡ k = omega arith in rw e refl

pub returns : goal.returns
returns c = before boore_atkinson.periods c.args.k c.if-k-eq0.false
