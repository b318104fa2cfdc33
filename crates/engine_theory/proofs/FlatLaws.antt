-- The promise of the plain struct follows from that of the answer.
use mathlib.Core.Path.{◌≡◌, refl, ap}
use mathlib.Core.List.{[]}
use Prim.Native.Nat.{ℕ, ◌≤◌}
use native.Mathlib.Omega.{arith}
use lib.ListN.{length}
use Rattle.scenario_theory.specs.declared.Scenario.{Scenario}
use Rattle.scenario_theory.specs.Refusal.{refusal_of}
use Rattle.engine_theory.specs.declared.FlatAnswer.{FlatAnswer}
use Rattle.std.specs.Prelude.{Ok, Err}
use Rattle.engine_theory.specs.Promise.{Answer, EnclosesBoth, AnswerPromise}
use Rattle.engine_theory.specs.Evaluation.{answer_by}
use Rattle.engine_theory.specs.Flat.{told, FlatPromise}
use Rattle.engine_theory.proofs.Laws.{promised}

-- no values are not four
pub none_enclose : {s : Scenario} → EnclosesBoth s [] → ⊥
none_enclose h = absurd (omega (arith, ap length h.four))

pub told_promised : {k : ℕ} {s : Scenario} (a : Answer) → AnswerPromise k s a → FlatPromise k s (told a)
told_promised (Ok e) p =
    record { number = p.number; enclosed = p.enclosed; zeros = λ h. absurd (h (omega arith)) }
told_promised (Err r) p =
    record { number = p.number; enclosed = λ z. absurd (none_enclose (p.enclosed z)); zeros = λ h. refl }

-- every struct of which a contract says `r ≡ told ..` keeps it
pub flat_answers : (s : Scenario) (k : ℕ) → (k ≡ 0 → refusal_of s ≡ 0) → k ≤ 15 → {r : FlatAnswer} →
    r ≡ told (answer_by k s) → (r ≡ told (answer_by k s)) × FlatPromise k s r
flat_answers s k accepted few e = (e, rw e (told_promised (answer_by k s) (promised s k accepted few)))
