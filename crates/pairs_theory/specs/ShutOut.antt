-- Fixed ends are shut out. Document 01, 'Checklist for the reviewer': "Fixed ends for every scenario: shut out by
-- demand 3, since medians differ by more than the width".
use Rattle.std.specs.Prelude.{[], ◌∷◌, Some, None}
use Rattle.scenario_theory.specs.declared.Scenario.{Scenario}
use Rattle.scenario_theory.specs.Refusal.{refusal_of}
use Rattle.record_theory.specs.Layout.{scenario_of}
use Rattle.engine_theory.specs.Promise.{Answer, AnswerPromise}

-- no answer keeps the promise for both
unfoldable pub NoSharedAnswer : Scenario → Scenario → Type 0
NoSharedAnswer s t = (a : Answer) → AnswerPromise (refusal_of s) s a → AnswerPromise (refusal_of t) t a → ⊥

-- two Idriss scenarios at rupture distance 0 on 450 m/s: M 7.90, reverse, 0.2 s, and M 4.50, strike-slip, 10 s
abbrev pub idriss_strong : Scenario
idriss_strong = scenario_of (Some 1 ∷ Some 790 ∷ Some 0 ∷ Some 4_500 ∷ Some 2 ∷ Some 200 ∷ None ∷ [])

abbrev pub idriss_weak : Scenario
idriss_weak = scenario_of (Some 1 ∷ Some 450 ∷ Some 0 ∷ Some 4_500 ∷ Some 0 ∷ Some 10_000 ∷ None ∷ [])

-- two Boore-Atkinson scenarios at projection distance 0 on 760 m/s: M 6.75, reverse, 0.2 s, and M 5.00, strike-slip,
-- 10 s
abbrev pub boore_atkinson_strong : Scenario
boore_atkinson_strong = scenario_of (Some 2 ∷ Some 675 ∷ None ∷ Some 7_600 ∷ Some 2 ∷ Some 200 ∷ Some 0 ∷ [])

abbrev pub boore_atkinson_weak : Scenario
boore_atkinson_weak = scenario_of (Some 2 ∷ Some 500 ∷ None ∷ Some 7_600 ∷ Some 0 ∷ Some 10_000 ∷ Some 0 ∷ [])

-- not even two scenarios of one model share an answer
unfoldable pub NoFixedEnds : Type 0
NoFixedEnds = NoSharedAnswer idriss_strong idriss_weak × NoSharedAnswer boore_atkinson_strong boore_atkinson_weak
