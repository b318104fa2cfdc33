-- The checks of a program, one by one, and what they have shown where they pass.
use mathlib.Core.Path.{◌≡◌, refl, sym, ap, subst, ◌∙◌}
use mathlib.Core.Bool.{Bool, true, false, false≢true, not, and-false}
use mathlib.Core.Logic.{⊎_elim}
use Rattle.std.specs.Prelude.{Option, Some, None, Result, Ok, Err}
use mathlib.Core.List.{[], ◌∷◌}
use Prim.Native.Nat.{ℕ, zero, suc}
use native.Mathlib.Omega.{arith}
use borrow.Author.Tests.{eqb-true, ne_eqb}
use lib.Dec.{eqb}
use Rattle.toolbox_theory.specs.Lists.{among}
use Rattle.scenario_theory.specs.declared.Scenario.{Scenario}
use Rattle.scenario_theory.specs.declared.RuptureDistance.{RuptureDistance}
use Rattle.scenario_theory.specs.declared.ProjectionDistance.{ProjectionDistance}
use Rattle.scenario_theory.specs.declared.Place.{Place}
use Rattle.scenario_theory.specs.declared.Refusal.{Refusal}
use Rattle.scenario_theory.specs.declared.Refusal.TheVariants as E
use Rattle.scenario_theory.specs.declared.Basis.{Basis}
use Rattle.scenario_theory.specs.declared.Basis.TheVariants as B
use Rattle.scenario_theory.specs.Checks.{◌to◌, beyond, ◌when◌, ◌otherwise◌, unless_refused}
use Rattle.scenario_theory.specs.Distances.{rupture_number, projection_number, is_absent, given, exceeds}
use Rattle.scenario_theory.specs.Refusal.{Limits, idriss, boore_atkinson, beyond_periods, refusal_by}
use Rattle.scenario_theory.specs.Refusal.{refusal_by_model, lacks_distance, projection_exceeds, refusal_of}
use Rattle.scenario_theory.specs.Rows.{place_by, idriss_row, boore_atkinson_row, idriss_place, boore_atkinson_place}
use Rattle.scenario_theory.specs.Rows.{row_list}
use Rattle.scenario_theory.specs.Neighbours.{row_periods_of}
use Rattle.scenario_theory.specs.Numbers.{refusal_number, with_number}
use Rattle.scenario_theory.specs.declared.ModelLimits.{ModelLimits}
use Rattle.scenario_theory.specs.Accepted.{code_limits, limit_number, limit_check, check_by, basis_of, based_on}
use Rattle.scenario_theory.specs.Accepted.{check_of, periods_on, InTables, plain_scenario, RestsOn}
use Rattle.scenario_theory.proofs.CheckLaws.{unless_is}
use Rattle.scenario_theory.proofs.RefusalLaws.{WithinBy, of_model}
use Rattle.scenario_theory.proofs.NumberLaws.{numbered, refusal_numbered}
use Rattle.scenario_theory.proofs.RowLaws.{placed, idriss_listed, boore_atkinson_listed}
use Rattle.scenario_theory.proofs.PeriodLaws.{idriss_in_table, boore_atkinson_in_table, idriss_periods_lem}
use Rattle.scenario_theory.proofs.PeriodLaws.{periods_found, Tabled, boore_atkinson_periods}

-- ---- the checks of a program are those of a model's column, one by one

-- the last of them, by the test of the period
last_number : (basis : Place → Basis) (p : Place) (b : Bool) →
    based_on basis (unless_refused (6 when b) (Some p) None) ≡
    unless_refused (6 when b) (Ok (basis p)) (Err (with_number (6 when b)))
last_number basis p true = refl
last_number basis p false = refl

-- 2 to 5 by the limits that the code has of a model
module _ (l : ModelLimits) (s : Scenario) (R : ℕ) where
  pub fails_2 : beyond (l.magnitude.0 to l.magnitude.1) s.magnitude ≡ true → Err E.Magnitude ≡ limit_check l s R
  unfolding limit_check limit_number
  fails_2 e = rw e refl

  module _ (two : beyond (l.magnitude.0 to l.magnitude.1) s.magnitude ≡ false) where
    pub fails_3 : beyond (0 to l.distance) R ≡ true → Err E.Distance ≡ limit_check l s R
    unfolding limit_check limit_number
    fails_3 e = rw (two, e) refl

    module _ (three : beyond (0 to l.distance) R ≡ false) where
      pub fails_4 : beyond (l.velocity.0 to l.velocity.1) s.velocity ≡ true → Err E.Velocity ≡ limit_check l s R
      unfolding limit_check limit_number
      fails_4 e = rw (two, three, e) refl

      module _ (four : beyond (l.velocity.0 to l.velocity.1) s.velocity ≡ false) where
        pub fails_5 : not (among (0 ∷ 1 ∷ 2 ∷ 3 ∷ l.mechanism ∷ []) s.mechanism) ≡ true →
            Err E.Mechanism ≡ limit_check l s R
        unfolding limit_check limit_number
        fails_5 e = rw (two, three, four, e) refl

        pub none_fails : not (among (0 ∷ 1 ∷ 2 ∷ 3 ∷ l.mechanism ∷ []) s.mechanism) ≡ false →
            Ok tt ≡ limit_check l s R
        unfolding limit_check limit_number
        none_fails e = rw (two, three, four, e) refl

-- by these limits and the distance R the checks of s are those of m
abbrev LimitsOf : Limits → Scenario → ModelLimits → ℕ → Type 0
LimitsOf m s l R = refusal_by m s ≡ (limit_number l s R otherwise 6 when beyond_periods s.period)

module _ (m : Limits) (row : ℕ → ℕ) (basis : Place → Basis) (s : Scenario) (l : ModelLimits) (R : ℕ)
    (limits : LimitsOf m s l R) where
  abbrev four_check : ℕ → Result (Unit {0}) Refusal
  four_check n = unless_refused n (Ok tt) (Err (with_number n))

  limit_fails : {e : Refusal} → limit_check l s R ≡ Err e → Err e ≡ check_by m row basis s
  unfolding limit_check check_by
  limit_fails {e} q = go (limit_number l s R) refl q
    where
      go : (n : ℕ) → limit_number l s R ≡ n → four_check n ≡ Err e → Err e ≡ check_by m row basis s
      go zero p q = let z : ◌≡◌ {A = ℕ} 0 1 = cc in absurd (omega arith)
      go (suc n) p q = let same : with_number (suc n) ≡ e = cc in rw (limits, p) (ap Err (sym same))

  -- and the last, the period's
  last_check : {c : Option Place} → limit_check l s R ≡ Ok tt →
      c ≡ unless_refused (6 when beyond_periods s.period) (Some (place_by m row s.period)) None →
      based_on basis c ≡ check_by m row basis s
  unfolding limit_check check_by
  last_check {c} q h = go (limit_number l s R) refl q
    where
      go : (n : ℕ) → limit_number l s R ≡ n → four_check n ≡ Ok tt → based_on basis c ≡ check_by m row basis s
      go zero p q = rw (h, limits, p) (last_number basis (place_by m row s.period) (beyond_periods s.period))
      go (suc n) p q = let z : ◌≡◌ {A = ℕ} 0 1 = cc in absurd (omega arith)

first_of_five : (i j k m n : ℕ) →
    (i otherwise j otherwise k otherwise m otherwise n) ≡ ((i otherwise j otherwise k otherwise m) otherwise n)
first_of_five zero zero zero m n = refl
first_of_five zero zero (suc k) m n = refl
first_of_five zero (suc j) k m n = refl
first_of_five (suc i) j k m n = refl

-- so they are of a model, by the distance that it reads
limits_of_column : (m : Limits) (s : Scenario) (mechanism : ℕ) {R : ℕ} → m.reads s ≡ Some R → m.distance.low ≡ 0 →
    m.mechanisms ≡ 0 ∷ 1 ∷ 2 ∷ 3 ∷ mechanism ∷ [] → LimitsOf m s (code_limits m mechanism) R
unfolding refusal_by limit_number
limits_of_column m s mechanism {R} reads low codes =
    rw (reads, low, codes)
    (first_of_five (2 when beyond m.magnitude s.magnitude) (3 when beyond (0 to m.distance.high) R)
    (4 when beyond m.velocity s.velocity) (5 when not (among (0 ∷ 1 ∷ 2 ∷ 3 ∷ mechanism ∷ []) s.mechanism))
    (6 when beyond_periods s.period))

-- ---- all checks

-- two numbers the first of which exceeds the second both stand
both_stand : (p r : Option ℕ) → exceeds p r ≡ true → (is_absent p ≡ false) × (is_absent r ≡ false)
both_stand None r e = absurd (false≢true e)
both_stand (Some p) None e = absurd (false≢true e)
both_stand (Some p) (Some r) e = (refl, refl)

-- so 9 does not apply where 13 does
pub exceeded : (s : Scenario) → projection_exceeds s ≡ true → Err E.ProjectionExceedsRupture ≡ check_of s
unfolding check_of refusal_of lacks_distance projection_exceeds
exceeded s e =
    let b = both_stand (projection_number s.projection) (rupture_number s.rupture) e in
    simp (b.0, b.1, and-false, e) refl

module _ (s : Scenario) (near : projection_exceeds s ≡ false) where
  module _ (model : s.model ≡ 1) where
    pub idriss_lacks : s.rupture ≡ None → Err E.MissingField ≡ check_of s
    unfolding check_of refusal_of lacks_distance
    idriss_lacks e = rw (model, e) refl

    module _ {d : RuptureDistance} (reads : s.rupture ≡ Some d) where
      idriss_checked : check_by idriss idriss_row (B.Idriss d) s ≡ check_of s
      unfolding check_of refusal_of lacks_distance refusal_by_model basis_of check_by
      idriss_checked = rw (near, model, reads) refl

      idriss_limits : LimitsOf idriss s (code_limits idriss 4) d.0
      idriss_limits = limits_of_column idriss s 4 (ap rupture_number reads) refl refl

      pub idriss_fails : {e : Refusal} → limit_check (code_limits idriss 4) s d.0 ≡ Err e → Err e ≡ check_of s
      idriss_fails q = limit_fails idriss idriss_row (B.Idriss d) s _ _ idriss_limits q ∙ idriss_checked

      pub idriss_last : {c : Option Place} → limit_check (code_limits idriss 4) s d.0 ≡ Ok tt →
          c ≡ idriss_place s.period → based_on (B.Idriss d) c ≡ check_of s
      unfolding idriss_place
      idriss_last q h =
          last_check idriss idriss_row (B.Idriss d) s _ _ idriss_limits q
          (h ∙ placed 0 idriss idriss_row idriss_listed s.period) ∙ idriss_checked

  module _ (model : s.model ≡ 2) where
    pub boore_atkinson_lacks : s.projection ≡ None → Err E.MissingField ≡ check_of s
    unfolding check_of refusal_of lacks_distance
    boore_atkinson_lacks e = rw (model, e) refl

    module _ {d : ProjectionDistance} (reads : s.projection ≡ Some d) where
      boore_atkinson_checked : check_by boore_atkinson boore_atkinson_row (B.BooreAtkinson d) s ≡ check_of s
      unfolding check_of refusal_of lacks_distance refusal_by_model basis_of check_by
      boore_atkinson_checked = rw (near, model, reads) refl

      boore_atkinson_limits : LimitsOf boore_atkinson s (code_limits boore_atkinson 9) d.0
      boore_atkinson_limits = limits_of_column boore_atkinson s 9 (ap projection_number reads) refl refl

      pub boore_atkinson_fails : {e : Refusal} → limit_check (code_limits boore_atkinson 9) s d.0 ≡ Err e →
          Err e ≡ check_of s
      boore_atkinson_fails q =
          limit_fails boore_atkinson boore_atkinson_row (B.BooreAtkinson d) s _ _ boore_atkinson_limits q ∙
          boore_atkinson_checked

      pub boore_atkinson_last : {c : Option Place} → limit_check (code_limits boore_atkinson 9) s d.0 ≡ Ok tt →
          c ≡ boore_atkinson_place s.period → based_on (B.BooreAtkinson d) c ≡ check_of s
      unfolding boore_atkinson_place
      boore_atkinson_last q h =
          last_check boore_atkinson boore_atkinson_row (B.BooreAtkinson d) s _ _ boore_atkinson_limits q
          (h ∙ placed 1 boore_atkinson boore_atkinson_row boore_atkinson_listed s.period) ∙ boore_atkinson_checked

  pub no_model : (s.model ≡ 1 → ⊥) → (s.model ≡ 2 → ⊥) → Err E.Model ≡ check_of s
  unfolding check_of refusal_of lacks_distance refusal_by_model
  no_model p q = simp (ne_eqb _ 1 p, ne_eqb _ 2 q, near) refl

-- ---- the periods of the rows, as the checks of a scenario look them up

-- what holds of a look-up holds of what rests on it
abbrev LooksUp : ℕ → ℕ → Result Basis Refusal → Type 0
LooksUp model T c = InTables c × (periods_on c ≡ row_periods_of model T)

module _ (T : ℕ) where
  by_idriss_lem : (l : Option Place) → Tabled l × (periods_found (row_list 1) l ≡ row_periods_of 1 T) →
      LooksUp 1 T (based_on (B.Idriss (record { 0 = 0 })) l)
  by_idriss_lem (Some p) h = h
  by_idriss_lem None h = h

  by_boore_atkinson : (l : Option Place) → Tabled l × (periods_found (row_list 2) l ≡ row_periods_of 2 T) →
      LooksUp 2 T (based_on (B.BooreAtkinson (record { 0 = 0 })) l)
  by_boore_atkinson (Some p) h = h
  by_boore_atkinson None h = h

  idriss_looks_up : LooksUp 1 T (check_of (plain_scenario 1 T))
  unfolding row_periods_of limit_check limit_number projection_exceeds
  idriss_looks_up =
      subst (LooksUp 1 T) (idriss_last (plain_scenario 1 T) refl refl refl refl refl)
      (by_idriss_lem (idriss_place T) (idriss_in_table T, idriss_periods_lem T))

  boore_atkinson_looks_up : LooksUp 2 T (check_of (plain_scenario 2 T))
  unfolding row_periods_of limit_check limit_number projection_exceeds
  boore_atkinson_looks_up =
      subst (LooksUp 2 T) (boore_atkinson_last (plain_scenario 2 T) refl refl refl refl refl)
      (by_boore_atkinson (boore_atkinson_place T) (boore_atkinson_in_table T, boore_atkinson_periods T))

pub looks_up : (model T : ℕ) → InTables (check_of (plain_scenario model T)) ×
    (periods_on (check_of (plain_scenario model T)) ≡ row_periods_of model T)
unfolding check_of refusal_of lacks_distance projection_exceeds refusal_by_model row_periods_of
looks_up model T = go (eqb model 1) (eqb model 2) refl refl
  where
    go : (a b : Bool) → eqb model 1 ≡ a → eqb model 2 ≡ b → LooksUp model T (check_of (plain_scenario model T))
    go true b p q = rw (eqb-true model 1 p) (idriss_looks_up T)
    go false true p q = rw (eqb-true model 2 q) (boore_atkinson_looks_up T)
    go false false p q = rw (p, q) (tt, refl)

-- ---- what they have shown

none_is_not : {x : ℕ} → ◌≡◌ {A = Option ℕ} None (Some x) → ⊥
none_is_not e = let z : ◌≡◌ {A = ℕ} 0 1 = cc in omega arith

some_is : {x y : ℕ} → ◌≡◌ {A = Option ℕ} (Some x) (Some y) → x ≡ y
some_is e = cc

module _ (s : Scenario) where
  -- what an answer to a scenario that is accepted rests on
  pub record Based : Type 0 where
    pub rests : Basis
    pub is : basis_of s ≡ Ok rests
    pub known : RestsOn s rests

  by_rupture : refusal_of s ≡ 0 → s.model ≡ 1 → WithinBy idriss s → (d : Option RuptureDistance) → s.rupture ≡ d → Based
  unfolding basis_of
  by_rupture a m w None e = absurd (none_is_not (sym (ap rupture_number e) ∙ w.reads))
  by_rupture a m w (Some d) e =
      record {
        rests = B.Idriss d (place_by idriss idriss_row s.period);
        is = rw (m, e) refl;
        known = record {
          accepted = a;
          basis = (m, ap rupture_number e);
          placed = record { within = rw (some_is (sym (ap rupture_number e) ∙ w.reads)) w.within; place = refl };
        };
      }

  by_projection : refusal_of s ≡ 0 → s.model ≡ 2 → WithinBy boore_atkinson s → (d : Option ProjectionDistance) →
      s.projection ≡ d → Based
  unfolding basis_of
  by_projection a m w None e = absurd (none_is_not (sym (ap projection_number e) ∙ w.reads))
  by_projection a m w (Some d) e =
      record {
        rests = B.BooreAtkinson d (place_by boore_atkinson boore_atkinson_row s.period);
        is = rw (m, e) refl;
        known = record {
          accepted = a;
          basis = (m, ap projection_number e);
          placed = record { within = rw (some_is (sym (ap projection_number e) ∙ w.reads)) w.within; place = refl };
        };
      }

  pub based : refusal_of s ≡ 0 → Based
  based a =
      ⊎_elim (λ p. by_rupture a p.0 p.1 s.rupture refl)
      (λ p. by_projection a p.0 p.1 s.projection refl) (of_model s a)

  pub passed : {b : Basis} → check_of s ≡ Ok b → RestsOn s b
  unfolding check_of
  passed {b} e =
      ⊎_elim (λ p. let d = based p.0 in let same : d.rests ≡ b = cc in subst (RestsOn s) same d.known)
      (λ p. let z : ◌≡◌ {A = ℕ} 0 1 = cc in absurd (omega arith)) (unless_is (refusal_of s) e)

  -- the number of a check that fails is not 0
  pub record Failed (e : Refusal) : Type 0 where
    pub number : refusal_number e ≡ refusal_of s
    pub reason : with_number (refusal_of s) ≡ e
    pub some : refusal_of s ≡ 0 → ⊥

  pub failed : {e : Refusal} → check_of s ≡ Err e → Failed e
  unfolding check_of
  failed {e} p =
      ⊎_elim (λ q. let d = based q.0 in let z : ◌≡◌ {A = ℕ} 0 1 = cc in absurd (omega arith))
      (λ q.
      let same : with_number (refusal_of s) ≡ e = cc in
      let number = sym (ap refusal_number same) ∙ numbered (refusal_of s) q.0 (refusal_numbered s) in
      record { number = number; reason = same; some = q.0 })
      (unless_is (refusal_of s) p)
