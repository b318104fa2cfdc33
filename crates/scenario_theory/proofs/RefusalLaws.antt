-- What a scenario that is not refused is like.
use mathlib.Core.Path.{◌≡◌, refl, sym, subst}
use mathlib.Core.Bool.{Bool, true, false, false≢true, true≢false, not, cond, ◌&&◌, ◌||◌}
use mathlib.Core.Logic.{◌⊎◌, inl, inr, ⊎_elim}
use Rattle.std.specs.Prelude.{Option, Some, None}
use Prim.Native.Nat.{ℕ, ◌≤◌, ◌<◌}
use native.Mathlib.Omega.{arith}
use borrow.Author.Rules.{rules}
use borrow.Author.Tests.{ltb-false, eqb-true, not-false}
use lib.Dec.{T, eqb, ltb, ltb→lt}
use Rattle.toolbox_theory.specs.Lists.{among}
use Rattle.toolbox_theory.proofs.ListLaws.{up_to, at_most}
use Rattle.std.proofs.lemmas.Bool.{or_cases, or_parts}
use Rattle.scenario_theory.specs.declared.Scenario.{Scenario}
use Rattle.scenario_theory.specs.Checks.{Range, beyond, ◌when◌}
use Rattle.scenario_theory.specs.Distances.{projection_number, is_absent, given, exceeds}
use Rattle.scenario_theory.specs.Refusal.{Limits, idriss, boore_atkinson, answered_periods, beyond_periods}
use Rattle.scenario_theory.specs.Refusal.{refusal_by, refusal_by_model, lacks_distance, projection_exceeds, refusal_of}
use Rattle.scenario_theory.specs.Accepted.{Within}
use Rattle.scenario_theory.proofs.CheckLaws.{none_of, not_when}

-- ---- a scenario that is not refused has the distance that its model reads, and is within the model's limits

not_beyond : (r : Range) (x : ℕ) → beyond r x ≡ false → (r.low ≤ x) × (x ≤ r.high)
not_beyond r x e = let p = or_parts (ltb x r.low) (ltb r.high x) e in omega (arith, ltb-false)

-- a period that is answered is 0, or from 10 to 10000, both included, and no other is
beyond_is : (r : Range) (x : ℕ) → beyond r x ≡ true → (x < r.low) ⊎ (r.high < x)
beyond_is r x e =
    ⊎_elim (λ p. inl (ltb→lt x r.low (rw p tt))) (λ p. inr (ltb→lt r.high x (rw p tt)))
    (or_cases (ltb x r.low) (ltb r.high x) e)

unless_zero : (b c : Bool) → (not b && c) ≡ false → (b ≡ true) ⊎ (c ≡ false)
unless_zero true c e = inl refl
unless_zero false c e = inr e

other_than_zero : (b c : Bool) → (not b && c) ≡ true → c ≡ true
other_than_zero true c e = absurd (false≢true e)
other_than_zero false c e = e

module _ (t : ℕ) where
  pub answered : beyond_periods t ≡ false → (t ≡ 0) ⊎ ((answered_periods.low ≤ t) × (t ≤ answered_periods.high))
  unfolding beyond_periods
  answered e =
      ⊎_elim (λ p. inl (eqb-true t 0 p)) (λ p. inr (not_beyond answered_periods t p))
      (unless_zero (eqb t 0) (beyond answered_periods t) e)

  pub not_answered : beyond_periods t ≡ true → (t < answered_periods.low) ⊎ (answered_periods.high < t)
  unfolding beyond_periods
  not_answered e = beyond_is answered_periods t (other_than_zero (eqb t 0) (beyond answered_periods t) e)

-- s has a distance that the model reads, and its fields are within the model's limits
pub record WithinBy (m : Limits) (s : Scenario) : Type 0 where
  pub distance : ℕ
  pub reads : m.reads s ≡ Some distance
  pub within : Within m s.magnitude distance s.velocity s.mechanism s.period

stands : (o : Option ℕ) → is_absent o ≡ false → (x : ℕ) × (o ≡ Some x)
stands None e = absurd (true≢false e)
stands (Some x) e = (x, refl)

pub within_at : (m : Limits) (s : Scenario) {d : ℕ} → m.reads s ≡ Some d → refusal_by m s ≡ 0 →
    Within m s.magnitude d s.velocity s.mechanism s.period
unfolding refusal_by
within_at m s {d} reads e =
    let two = none_of (2 when beyond m.magnitude s.magnitude) _ e in
    let three = none_of (3 when given (m.reads s) (beyond m.distance) false) _ two.1 in
    let four = none_of (4 when beyond m.velocity s.velocity) _ three.1 in
    let five = none_of (5 when not (among m.mechanisms s.mechanism)) _ four.1 in
    let near = rw reads at (not_when 2 (given (m.reads s) (beyond m.distance) false) three.0) in
    let magnitude = not_beyond m.magnitude s.magnitude (not_when 1 _ two.0) in
    let distance = not_beyond m.distance d near in
    let velocity = not_beyond m.velocity s.velocity (not_when 3 _ four.0) in
    let mechanism = not-false (among m.mechanisms s.mechanism) (not_when 4 _ five.0) in
    let period = not_when 5 (beyond_periods s.period) five.1 in
    search rules

within_by : (m : Limits) (s : Scenario) → is_absent (m.reads s) ≡ false → refusal_by m s ≡ 0 → WithinBy m s
within_by m s here e =
    let d = stands (m.reads s) here in record { distance = d.0; reads = d.1; within = within_at m s d.1 e }

-- the checks one by one: none of them applies
pub record NoneApplies (s : Scenario) : Type 0 where
  pub nine : lacks_distance s ≡ false
  pub thirteen : projection_exceeds s ≡ false
  pub others : refusal_by_model s ≡ 0

pub none_applies : (s : Scenario) → refusal_of s ≡ 0 → NoneApplies s
unfolding refusal_of
none_applies s e =
    let nine = none_of (9 when lacks_distance s) _ e in
    let thirteen = none_of (13 when projection_exceeds s) _ nine.1 in
    record { nine = not_when 8 _ nine.0; thirteen = not_when 12 _ thirteen.0; others = thirteen.1 }

-- its model is 1 or 2
abbrev Taken : Scenario → Type 0
Taken s = ((s.model ≡ 1) × WithinBy idriss s) ⊎ ((s.model ≡ 2) × WithinBy boore_atkinson s)

pub of_model : (s : Scenario) → refusal_of s ≡ 0 →
    ((s.model ≡ 1) × WithinBy idriss s) ⊎ ((s.model ≡ 2) × WithinBy boore_atkinson s)
unfolding lacks_distance refusal_by_model
of_model s e = let a = none_applies s e in go (eqb s.model 1) (eqb s.model 2) refl refl a.nine a.others
  where
    go : (a b : Bool) → eqb s.model 1 ≡ a → eqb s.model 2 ≡ b →
        ((a && is_absent (idriss.reads s)) || (b && is_absent (boore_atkinson.reads s))) ≡ false →
        cond a (refusal_by idriss s) (cond b (refusal_by boore_atkinson s) 1) ≡ 0 → Taken s
    go true b p q d e =
        inl (eqb-true s.model 1 p, within_by idriss s (or_parts (is_absent (idriss.reads s)) _ d).0 e)
    go false true p q d e = inr (eqb-true s.model 2 q, within_by boore_atkinson s d e)
    go false false p q d e = absurd (omega arith)

-- no number of it is greater than these; for the rupture distance of model 2 only its type sets a limit
pub record Sizes (s : Scenario) : Type 0 where
  pub model : s.model ≤ 2
  pub magnitude : s.magnitude ≤ 800
  pub velocity : s.velocity ≤ 20_000
  pub mechanism : s.mechanism ≤ 9
  pub period : s.period ≤ 10_000

-- as no limit of a model is
sizes_by : (m : Limits) (s : Scenario) → (m.magnitude.high ≤ 800) × (m.velocity.high ≤ 20_000) →
    T (up_to 9 m.mechanisms) → s.model ≤ 2 → WithinBy m s → Sizes s
sizes_by m s h codes k w =
    let mechanism = at_most 9 m.mechanisms s.mechanism codes w.within.mechanism_known in
    ⊎_elim (λ p. omega arith) (λ p. omega arith) (answered s.period w.within.period_answered)

pub sizes : (s : Scenario) → refusal_of s ≡ 0 → Sizes s
sizes s e =
    ⊎_elim (λ p. sizes_by idriss s (omega arith) tt (omega arith) p.1)
    (λ p. sizes_by boore_atkinson s (omega arith) tt (omega arith) p.1) (of_model s e)

-- ---- and its distances

-- a number that stands is below k
abbrev pub Below : ℕ → Option ℕ → Type 0
Below k None = Unit {0}
Below k (Some x) = x < k

-- one that does not exceed another that stands
nearer : {r k : ℕ} (p : Option ℕ) → r < k → exceeds p (Some r) ≡ false → Below k p
nearer None h e = tt
nearer (Some p) h e = omega (arith, ltb-false _ p e)

-- the projection distance is a number of two bytes by either model: Boore and Atkinson read it, and it does not exceed
-- what Idriss reads
pub projection_below : (s : Scenario) → refusal_of s ≡ 0 → Below 65_536 (projection_number s.projection)
unfolding projection_exceeds
projection_below s e =
    ⊎_elim
    (λ p.
    let w = p.1 in
    let near = rw w.reads at (none_applies s e).thirteen in
    nearer (projection_number s.projection) (omega (arith, w.within.distance_high)) near)
    (λ p.
    let w = p.1 in
    let small : w.distance < 65_536 = omega (arith, w.within.distance_high) in
    subst (Below 65_536) (sym w.reads) small) (of_model s e)
