-- Where a period stands in the tables of a model.
use mathlib.Core.Path.{◌≡◌, refl, sym, ap, ◌∙◌}
use mathlib.Core.Bool.{Bool, true, false, false≢true, not, cond, ◌&&◌}
use mathlib.Core.List.{◌∷◌}
use mathlib.Core.Logic.{⊎_elim}
use Prim.Native.Nat.{ℕ, ◌+◌, ◌-◌, ◌≤◌, ◌<◌}
use native.Mathlib.Decide.{dec_lt}
use native.Mathlib.Omega.{arith}
use borrow.Author.Tests.{eq-eqb, ne_eqb, lt-ltb, le-ltb, not-true}
use lib.Dec.{T, eqb, ltb, ltb→lt, eqb→eq}
use lib.ListN.{length, get_or}
use Rattle.toolbox_theory.specs.Lists.{among, count_below}
use Rattle.toolbox_theory.proofs.Tests.{is_true, each, by_test, all_below, below}
use Rattle.toolbox_theory.proofs.ListLaws.{Missed, earlier, missed, all, all_at, rising, Around, around}
use Rattle.std.proofs.lemmas.Bool.{or_parts}
use Rattle.toolbox_theory.proofs.ListLaws.{among_at, between_places, greatest_below, least_above}
use Rattle.std.proofs.lemmas.Bool.{or_parts}
use Rattle.std.specs.Prelude.{Option, Some, None}
use Rattle.scenario_theory.specs.declared.Place.{Place}
use Rattle.scenario_theory.specs.declared.Place.TheVariants as P
use Rattle.scenario_theory.specs.Checks.{◌when◌, unless_refused}
use Rattle.scenario_theory.specs.Refusal.{Limits, idriss, boore_atkinson, answered_periods, beyond_periods}
use Rattle.scenario_theory.specs.Neighbours.{has_row, neighbour_below, neighbour_above, idriss_printed}
use Rattle.scenario_theory.specs.Rows.{BetweenRows, place_by, idriss_row, boore_atkinson_row, row_count}
use Rattle.scenario_theory.specs.Rows.{place_among}
use Rattle.scenario_theory.proofs.RefusalLaws.{answered, not_answered}

-- ---- the row of a tabled period

pub idriss_row_lem : (period : ℕ) → has_row idriss period ≡ true → idriss_row period < row_count
unfolding idriss_row
idriss_row_lem period e = ltb→lt _ _ (all_at (λ t. ltb (idriss_row t) row_count) (0 ∷ idriss.periods) period tt e)

pub boore_atkinson_row_lem : (period : ℕ) → has_row boore_atkinson period ≡ true → boore_atkinson_row period < row_count
unfolding boore_atkinson_row
boore_atkinson_row_lem period e =
    ltb→lt _ _ (all_at (λ t. ltb (boore_atkinson_row t) row_count) (0 ∷ boore_atkinson.periods) period tt e)

-- ---- the place of a period

-- a look-up gave row k
abbrev is_row : ℕ → Option Place → Bool
is_row k (Some (P.Row j)) = eqb j k
is_row k (Some (P.Between j)) = false
is_row k None = false

row_is : (k : ℕ) (c : Option Place) → T (is_row k c) → c ≡ Some (P.Row k)
row_is k (Some (P.Row j)) t = ap (λ i. Some (P.Row i)) (eqb→eq j k t)
row_is k (Some (P.Between j)) t = absurd t
row_is k None t = absurd t

-- in the tables of a model with the limits m, the first of whose periods has row `first`, and t row `row t`
module _ (first : ℕ) (m : Limits) (row : ℕ → ℕ) where
  abbrev count : ℕ → ℕ
  count t = count_below m.periods t

  -- by counting
  abbrev pub place : ℕ → Option Place
  place t = cond (eqb t 0) (Some (P.Row 0)) (place_among first m.periods t)

  -- what is computed once of the list
  pub record Listed : Type 0 where
    rises : T (rising m.periods)
    answers : T (all (λ t. not (beyond_periods t)) (0 ∷ m.periods))
    tabled : T (all (λ t. is_row (row t) (place t)) (0 ∷ m.periods))
    numbered : T (all_below (length m.periods) (λ i. eqb (row (get_or m.periods i 0)) (first + i)))
    some : 1 ≤ length m.periods
    least : get_or m.periods 0 0 ≡ answered_periods.low
    greatest : get_or m.periods (length m.periods - 1) 0 ≡ answered_periods.high

  module _ (l : Listed) (t : ℕ) where
    abbrev n : ℕ
    n = count_below m.periods t

    -- a period is after some of the list, and before some
    abbrev Inside : Type 0
    Inside = (0 < n) × (n < length m.periods)

    ends : Around m.periods t 0 × Around m.periods t (length m.periods - 1)
    ends = (
      around m.periods t l.rises 0 (omega (arith, l.some)),
      around m.periods t l.rises (length m.periods - 1) (omega (arith, l.some)),
    )

    -- just where it is answered, if it is not in the list
    answered_inside : has_row m t ≡ false → beyond_periods t ≡ false → Inside
    answered_inside none ok =
        let not_in = or_parts (eqb t 0) (among m.periods t) none in
        let first_in_lem = among_at m.periods 0 l.some in
        let other : t ≡ answered_periods.low → ⊥ = λ e. false≢true (sym not_in.1 ∙ rw (e, ← l.least) first_in_lem) in
        let some : t ≡ 0 → ⊥ = λ e. false≢true (sym not_in.0 ∙ eq-eqb t 0 e) in
        let low : n ≤ 0 → t ≤ answered_periods.low = rw l.least at ends.0.above in
        let high : length m.periods - 1 < n → answered_periods.high < t = rw l.greatest at ends.1.below in
        ⊎_elim (λ e. absurd (some e))
        (λ p. (
          elim (dec_lt 0 n) [ yes h ↦ h | no h ↦ absurd (omega (arith, low (omega arith), p.0, other)) ],
          elim (dec_lt n (length m.periods)) [
            | yes h ↦ h
            | no h ↦ absurd (omega (arith, high (omega (arith, l.some)), p.1))
          ],
        ))
        (answered t ok)

    outside_inside : beyond_periods t ≡ true → Inside → ⊥
    outside_inside e h =
        let low : 0 < n → answered_periods.low < t = rw l.least at ends.0.below in
        let high : n ≤ length m.periods - 1 → t ≤ answered_periods.high = rw l.greatest at ends.1.above in
        ⊎_elim (λ p. absurd (omega (arith, p, low h.0))) (λ p. absurd (omega (arith, p, high (omega (arith, h.1)))))
        (not_answered t e)

    -- then its neighbours are in the places before and after
    number : (i : ℕ) → i < length m.periods → row (get_or m.periods i 0) ≡ first + i
    number i h =
        eqb→eq _ _ (below (length m.periods) (λ i. eqb (row (get_or m.periods i 0)) (first + i)) l.numbered i h)

    module _ (none : has_row m t ≡ false) (ok : beyond_periods t ≡ false) where
      inside : Inside
      inside = answered_inside none ok

      not_listed : among m.periods t ≡ false
      not_listed = (or_parts (eqb t 0) (among m.periods t) none).1

      below_is : neighbour_below m t ≡ get_or m.periods (n - 1) 0
      unfolding neighbour_below
      below_is = greatest_below m.periods t (n - 1) l.rises (omega (arith, inside)) (omega (arith, inside))

      above_is : neighbour_above m t ≡ get_or m.periods n 0
      unfolding neighbour_above
      above_is = least_above m.periods t n l.rises not_listed refl inside.1

      pub between_rows : BetweenRows m row t
      between_rows =
          let here : n - 1 + 1 ≡ n = omega (arith, inside.0) in
          let r = between_places m.periods t (n - 1) l.rises not_listed here (omega (arith, here, inside.1)) in
          let before = number (n - 1) (omega (arith, inside)) in
          record {
            first = rw below_is (among_at m.periods (n - 1) (omega (arith, inside)));
            second = rw above_is (among_at m.periods n inside.1);
            above = rw below_is r.0;
            below = rw above_is (rw here at r.1);
            next = rw (below_is, above_is) (omega (arith, before, number n inside.1, inside.0));
          }

    -- and the place by counting is that of the definitions
    abbrev Placed : Bool → Type 0
    Placed outside = place t ≡ unless_refused (6 when outside) (Some (place_by m row t)) None

    untabled : (outside : Bool) → has_row m t ≡ false → beyond_periods t ≡ outside → Placed outside
    unfolding place_among
    untabled false none e =
        let h = answered_inside none e in
        let not_in = or_parts (eqb t 0) (among m.periods t) none in
        let before = below_is none e in
        let k = number (n - 1) (omega (arith, h)) in
        rw (not_in.0, not_in.1, lt-ltb 0 n h.0, lt-ltb n (length m.periods) h.1, before, k)
        (ap (λ i. Some (P.Between i)) (omega (arith, h.0)))
    untabled true none e =
        let not_in = or_parts (eqb t 0) (among m.periods t) none in
        rw (not_in.0, not_in.1)
        (by_test (ltb 0 n && ltb n (length m.periods)) (λ c. c ≡ None)
        (λ q. absurd (outside_inside e (each (ltb 0 n) (ltb n (length m.periods)) (ltb→lt _ _) (ltb→lt _ _) q)))
        (λ _. refl))

    by_tabled : (tabled : Bool) → has_row m t ≡ tabled → Placed (beyond_periods t)
    by_tabled true e =
        let p = all_at (λ t. not (beyond_periods t)) (0 ∷ m.periods) t l.answers e in
        let ok = not-true (beyond_periods t) (is_true _ p) in
        let k = row_is (row t) (place t) (all_at (λ t. is_row (row t) (place t)) (0 ∷ m.periods) t l.tabled e) in
        rw (ok, e) k
    by_tabled false e = untabled (beyond_periods t) e refl

    pub placed : Placed (beyond_periods t)
    placed = by_tabled (has_row m t) refl

  -- the place of a period that is neither 0 nor in the list
  pub in_no_row : (t : ℕ) {n : ℕ} {c : Option Place} → Missed (Unit {0}) (0 ∷ m.periods) t →
      n ≡ count_below m.periods t →
      c ≡ cond (ltb 0 n && ltb n (length m.periods)) (Some (P.Between (first + n - 1))) None →
      c ≡ cond (eqb t 0) (Some (P.Row 0)) (place_among first m.periods t)
  unfolding place_among
  in_no_row t other count e =
      let before = Unit {0} × (t ≡ 0 → ⊥) in
      rw (ne_eqb t 0 (earlier before m.periods t other).1, missed before m.periods t other, e, count) refl

-- ---- of either model

pub idriss_listed : Listed 0 idriss idriss_row
unfolding idriss_row place_among count_below beyond_periods all_below
idriss_listed = record {
  rises = tt;
  answers = tt;
  tabled = tt;
  numbered = tt;
  some = omega arith;
  least = refl;
  greatest = refl;
}

pub boore_atkinson_listed : Listed 1 boore_atkinson boore_atkinson_row
unfolding boore_atkinson_row place_among count_below beyond_periods all_below
boore_atkinson_listed = record {
  rises = tt;
  answers = tt;
  tabled = tt;
  numbered = tt;
  some = omega arith;
  least = refl;
  greatest = refl;
}

module _ (t : ℕ) (none : has_row idriss t ≡ false) (ok : beyond_periods t ≡ false) where
  pub idriss_between : BetweenRows idriss idriss_row t
  idriss_between = between_rows 0 idriss idriss_row idriss_listed t none ok

module _ (t : ℕ) (none : has_row boore_atkinson t ≡ false) (ok : beyond_periods t ≡ false) where
  pub boore_atkinson_between : BetweenRows boore_atkinson boore_atkinson_row t
  boore_atkinson_between = between_rows 1 boore_atkinson boore_atkinson_row boore_atkinson_listed t none ok

-- what the place of a period says of it
module _ (m : Limits) (row : ℕ → ℕ) (t : ℕ) where
  pub at_row : {k : ℕ} → place_by m row t ≡ P.Row k → (has_row m t ≡ true) × (k ≡ row t)
  at_row = go (has_row m t) refl
    where
      go : (b : Bool) {k : ℕ} → has_row m t ≡ b →
          cond b (P.Row (row t)) (P.Between (row (neighbour_below m t))) ≡ P.Row k → (has_row m t ≡ true) × (k ≡ row t)
      go true p e = (p, cc)
      go false p e = let z : ◌≡◌ {A = ℕ} 0 1 = cc in absurd (omega arith)

  pub between_of_lem : {k : ℕ} → place_by m row t ≡ P.Between k → (has_row m t ≡ false) ×
      (k ≡ row (neighbour_below m t))
  between_of_lem = go (has_row m t) refl
    where
      go : (b : Bool) {k : ℕ} → has_row m t ≡ b →
          cond b (P.Row (row t)) (P.Between (row (neighbour_below m t))) ≡ P.Between k →
          (has_row m t ≡ false) × (k ≡ row (neighbour_below m t))
      go true p e = let z : ◌≡◌ {A = ℕ} 0 1 = cc in absurd (omega arith)
      go false p e = (p, cc)

-- Boore-Atkinson's periods are Idriss's without 40, the fourth
fourth_first : (a b c d rest : ℕ) → a + (b + (c + (d + rest))) ≡ d + (a + (b + (c + rest)))
fourth_first a b c d rest = omega arith

pub count_without_40 : (period : ℕ) →
    count_below idriss.periods period ≡ cond (ltb 40 period) 1 0 + count_below boore_atkinson.periods period
unfolding count_below
count_without_40 period = fourth_first _ _ _ _ _

-- so its periods by row are Idriss's, one row later up to 0.03 s
abbrev by_idriss : ℕ → ℕ
by_idriss k =
    cond (eqb k 0) 0 (cond (ltb k 4) (get_or idriss.periods (k - 1) 0) (get_or idriss.periods k 0))

by_idriss_lem : (k : ℕ) → k < row_count → get_or (0 ∷ boore_atkinson.periods) k 0 ≡ by_idriss k
unfolding all_below
by_idriss_lem k h =
    eqb→eq _ _ (below row_count (λ k. eqb (get_or (0 ∷ boore_atkinson.periods) k 0) (by_idriss k)) tt k h)

module _ {k : ℕ} (some : k ≡ 0 → ⊥) where
  pub period_up_to_30 : k < 4 → get_or idriss.periods (k - 1) 0 ≡ get_or (0 ∷ boore_atkinson.periods) k 0
  period_up_to_30 h = sym (by_idriss_lem k (omega (arith, h)) ∙ rw (ne_eqb k 0 some, lt-ltb k 4 h) refl)

  pub period_from_50 : 4 ≤ k → k < row_count → get_or idriss.periods k 0 ≡ get_or (0 ∷ boore_atkinson.periods) k 0
  period_from_50 h few = sym (by_idriss_lem k few ∙ rw (ne_eqb k 0 some, le-ltb k 4 h) refl)

-- the period of the row of a tabled period is that period; Idriss's row 0 is that of 0.01 s
pub idriss_printed_lem : (t : ℕ) → has_row idriss t ≡ true → get_or idriss.periods (idriss_row t) 0 ≡ idriss_printed t
unfolding idriss_row
idriss_printed_lem t e =
    eqb→eq _ _
    (all_at (λ t. eqb (get_or idriss.periods (idriss_row t) 0) (idriss_printed t)) (0 ∷ idriss.periods) t tt e)

pub printed_itself : (t : ℕ) → among idriss.periods t ≡ true → idriss_printed t ≡ t
printed_itself t e = eqb→eq _ _ (all_at (λ t. eqb (idriss_printed t) t) idriss.periods t tt e)

pub boore_atkinson_printed : (t : ℕ) → has_row boore_atkinson t ≡ true →
    get_or (0 ∷ boore_atkinson.periods) (boore_atkinson_row t) 0 ≡ t
unfolding boore_atkinson_row
boore_atkinson_printed t e =
    eqb→eq _ _
    (all_at (λ t. eqb (get_or (0 ∷ boore_atkinson.periods) (boore_atkinson_row t) 0) t)
    (0 ∷ boore_atkinson.periods) t tt e)
