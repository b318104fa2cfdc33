-- What is taken: k is a row, and the checks accept the scenario.
use mathlib.Core.Path.{◌≡◌, refl, ◌∙◌, sym}
use mathlib.Core.Bool.{false≢true, Bool, true, false, cond}
use lib.IntN.{ℤ}
use Prim.Native.Nat.{ℕ, ◌<◌}
use borrow.Author.Tests.{eqb-true, leb-false}
use lib.Dec.{eqb, leb}
use Rattle.scenario_theory.specs.declared.Scenario.{Scenario}
use Rattle.scenario_theory.specs.Rows.{row_count}
use Rattle.scenario_theory.specs.Refusal.{idriss, boore_atkinson, refusal_by_model, refusal_of}
use Rattle.scenario_theory.specs.Accepted.{Within}
use Rattle.scenario_theory.proofs.RefusalLaws.{within_at, none_applies}
use Rattle.interval_theory.specs.declared.Ends.{Ends}
use Rattle.probes.specs.declared.ProbedEnds.{ProbedEnds}
use Rattle.probes.specs.Probe.{idriss_scenario, boore_atkinson_scenario, is_taken, no_ends, told, where_taken}

pub record Taken (k : ℕ) (s : Scenario) : Type 0 where
  pub row : k < row_count
  pub accepted : refusal_of s ≡ 0

-- b says whether k and s are taken
pub taken : (k : ℕ) (s : Scenario) {b : Bool} → b ≡ is_taken k s → b ≡ true → Taken k s
unfolding is_taken
taken k s says e = go (leb row_count k) refl (sym says ∙ e)
  where
    go : (b : Bool) → leb row_count k ≡ b → cond b false (eqb (refusal_of s) 0) ≡ true → Taken k s
    go true p e = absurd (false≢true e)
    go false p e = record { row = leb-false row_count k p; accepted = eqb-true (refusal_of s) 0 e }

-- so the ends are told where they are taken, and none elsewhere
module _ (k : ℕ) (s : Scenario) (e : Ends ℤ) {b : Bool} (says : b ≡ is_taken k s) where
  pub ends_told : {r : ProbedEnds} → b ≡ true → r ≡ told e → r ≡ where_taken k s e
  ends_told t same = rw (← says, t) same

  pub none_told : b ≡ false → no_ends ≡ where_taken k s e
  none_told f = rw (← says, f) refl

-- a scenario of one distance that is accepted is within the limits of its model
module _ {M R Vs mechanism T : ℕ} where
  pub takes_idriss : refusal_of (idriss_scenario M R Vs mechanism T) ≡ 0 → Within idriss M R Vs mechanism T
  unfolding refusal_by_model
  takes_idriss e = let s = idriss_scenario M R Vs mechanism T in within_at idriss s refl (none_applies s e).others

  pub takes_boore_atkinson : refusal_of (boore_atkinson_scenario M R Vs mechanism T) ≡ 0 →
      Within boore_atkinson M R Vs mechanism T
  unfolding refusal_by_model
  takes_boore_atkinson e =
      let s = boore_atkinson_scenario M R Vs mechanism T in within_at boore_atkinson s refl (none_applies s e).others
