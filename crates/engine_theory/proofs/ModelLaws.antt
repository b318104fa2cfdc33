-- The ends of an accepted scenario enclose what its model gives: by a row, and between two rows (W-201).
use Rattle.std.specs.Prelude.{ℤ}
use mathlib.Core.Path.{◌≡◌, refl}
use mathlib.Core.Bool.{Bool, true, false, false≢true, or-false, cond, ◌&&◌, ◌||◌}
use mathlib.Core.Logic.{⊎_elim}
use Rattle.std.specs.Prelude.{Option, Some, None}
use Prim.Native.Nat.{ℕ, ◌*◌, ◌^◌, ◌≤◌}
use native.Mathlib.Nat.{le_refl}
use native.Mathlib.Omega.{arith}
use borrow.Author.Tests.{eqb-true}
use lib.Dec.{eqb}
use lib.IntN.{ℤ, pos, ◌+ℤ◌}
use lib.Signed.{◌≤ℤ◌}
use Rattle.toolbox_theory.specs.Whole.{up, down}
use Rattle.toolbox_theory.proofs.Whole.{≤ℤ_in, ≤ℤ_trans, add_is, within_more}
use Rattle.exact_theory.specs.Pair.{Pair}
use Rattle.exact_theory.specs.Formula.{Formula, Defined, ends, Encloses}
use Rattle.exact_theory.proofs.UnitLaws.{in_order}
use Rattle.interval_theory.specs.declared.Ends.{Ends}
use Rattle.interval_theory.specs.Signed.{SmallerThan}
use Rattle.interval_theory.specs.Bound.{Reaches}
use Rattle.interval_theory.proofs.SignedBounds.{reaches_more}
use Rattle.interpolation_theory.specs.Promise.{BetweenEnds}
use Rattle.scenario_theory.specs.declared.Scenario.{Scenario}
use Rattle.scenario_theory.specs.Distances.{is_absent}
use Rattle.scenario_theory.specs.Refusal.{idriss, boore_atkinson, lacks_distance, refusal_of}
use Rattle.scenario_theory.specs.Neighbours.{has_row, neighbour_below, neighbour_above}
use Rattle.scenario_theory.specs.Accepted.{Within}
use Rattle.scenario_theory.proofs.RefusalLaws.{WithinBy, of_model}
use Rattle.scenario_theory.proofs.RowLaws.{idriss_row_lem, boore_atkinson_row_lem}
use Rattle.idriss_theory.specs.Tables.{table2, table3, takes_table3, table_for}
use Rattle.idriss_theory.specs.Sigma.{sigma as idriss_sigma}
use Rattle.idriss_theory.specs.Evaluation.{sigma_of as idriss_sigma_of}
use Rattle.idriss_theory.specs.Promise as idriss_promise
use Rattle.idriss_theory.proofs.Rows.{row_at_lem as idriss_row_at_lem}
use Rattle.idriss_theory.proofs.Accepted.{median_domain as idriss_median_domain}
use Rattle.idriss_theory.proofs.Laws.{median_of_promise as idriss_median_promise}
use Rattle.idriss_theory.proofs.Ranges.{median_of_reaches as idriss_median_reaches}
use Rattle.idriss_theory.proofs.Between.{median_between_of_promise as idriss_between_promise}
use Rattle.idriss_theory.proofs.SigmaLaws.{sigma_of_promise as idriss_sigma_promise}
use Rattle.boore_atkinson_theory.specs.Promise as boore_atkinson_promise
use Rattle.boore_atkinson_theory.proofs.Rows.{row_at_lem, total_at_lem}
use Rattle.boore_atkinson_theory.proofs.Accepted.{median_domain as boore_atkinson_median_domain}
use Rattle.boore_atkinson_theory.proofs.Laws.{median_of_promise as boore_atkinson_median_promise}
use Rattle.boore_atkinson_theory.proofs.Laws.{sigma_of_promise as boore_atkinson_sigma_promise}
use Rattle.boore_atkinson_theory.proofs.Ranges.{median_of_reaches as boore_atkinson_median_reaches}
use Rattle.boore_atkinson_theory.proofs.Between.{median_between_of_promise, sigma_between_of_promise}
use Rattle.engine_theory.specs.declared.Enclosure.{Enclosure}
use Rattle.engine_theory.specs.Models.{undefined, idriss_median_by, median, sigma, idriss_width, boore_atkinson_width}
use Rattle.engine_theory.specs.Models.{width_at, median_width, idriss_sigma_width, sigma_between_width, sigma_width}
use Rattle.engine_theory.specs.Models.{boore_atkinson_median_by, boore_atkinson_sigma_by}
use Rattle.engine_theory.specs.Promise.{EnclosedWithin}
use Rattle.engine_theory.specs.Ranges.{median_least, median_most, InRange}
use Rattle.engine_theory.specs.Evaluation.{idriss_median_ends, boore_atkinson_median_ends}
use Rattle.engine_theory.specs.Evaluation.{boore_atkinson_sigma_ends, idriss_enclosure_of, boore_atkinson_enclosure_of}
use Rattle.engine_theory.specs.Evaluation.{enclosure_of, SmallEnclosure}
use Rattle.engine_theory.proofs.RowLaws.{idriss_tabled, boore_atkinson_tabled, on_step, not_first}

-- two ends enclose f, at most w units apart, and a double equals each
pub record SoundEnds (w : ℕ) (f : Formula) (e : Ends ℤ) : Type 0 where
  pub enclosed : EnclosedWithin w f e.low e.high
  pub small : SmallerThan (2 ^ 53) e

-- ends that are at most v units apart are at most w
ends_of : {f : Formula} (e : Ends ℤ) (v w : ℕ) → v ≤ w → Encloses (ends e.low e.high) f →
    e.high ≤ℤ (e.low +ℤ pos v) → SmallerThan (2 ^ 53) e → SoundEnds w f e
ends_of e v w more h narrow small = record {
  enclosed = record { encloses = h; narrow = within_more _ e.low v w more narrow };
  small = small;
}

between_ends : {f : Formula} {v l h : ℕ} {e : Ends ℤ} (w : ℕ) → v ≤ w → BetweenEnds f v l h e → SoundEnds w f e
between_ends {v = v} {e = e} w more b = ends_of e v w more b.encloses b.narrow b.small

-- equal ends are no units apart
no_units : {y : ℤ} (z : ℤ) → y ≡ z → y ≤ℤ (z +ℤ pos 0)
unfolding up down
no_units z e = rw e (≤ℤ_in (omega (arith, add_is z (pos 0))))

-- those of a median lie within the range, too
record MedianEnds (w : ℕ) (f : Formula) (e : Ends ℤ) : Type 0 where
  own : SoundEnds w f e
  inside : InRange e

median_ends : {w l h : ℕ} {f : Formula} {e : Ends ℤ} → SoundEnds w f e → l ≤ median_least → h ≤ median_most →
    Reaches l h e → MedianEnds w f e
median_ends {e = e} own least most reaches =
    let order = in_order own.enclosed.encloses in
    let inside = reaches_more median_least median_most least most reaches in
    record {
      own = own;
      inside = record { order = order; low_most = ≤ℤ_trans e.high order inside.most; reaches = inside };
    }

-- what is computed at a period is to what the model gives there as each of its two cases is
by_tabled : (K : ℕ → Formula → Ends ℤ → Type 0) (b : Bool) {w v : ℕ} {f g : Formula} {d e : Ends ℤ} →
    (b ≡ true → K w f d) → (b ≡ false → K v g e) → K (cond b w v) (cond b f g) (cond b d e)
by_tabled K true tabled other = tabled refl
by_tabled K false tabled other = other refl

-- ---- each model's

module _ (s : Scenario) where
  abbrev T : ℕ
  T = s.period

  module _ {R : ℕ} (w : Within idriss s.magnitude R s.velocity s.mechanism s.period) where
    -- by either table
    idriss_median_lem : (is_table3 : Bool) →
        let table = cond is_table3 table3 table2 in
        MedianEnds (width_at idriss T idriss_width) (idriss_median_by table R s)
        (idriss_median_ends table s.magnitude R s.velocity s.mechanism T)
    idriss_median_lem is_table3 =
        by_tabled MedianEnds (has_row idriss T)
        (λ e.
        let d = idriss_median_domain (idriss_row_lem T e) w in
        let m = rw (← idriss_row_at_lem is_table3 T) at (idriss_median_promise is_table3 s.mechanism d) in
        let r = rw (← idriss_row_at_lem is_table3 T) at (idriss_median_reaches is_table3 s.mechanism d) in
        let own = ends_of _ idriss_promise.median_width idriss_width (omega arith) m.encloses m.narrow m.small in
        median_ends own (omega arith) (omega arith) r)
        (λ e.
        let b = on_step idriss_tabled T e w.period_answered in
        let d = idriss_median_domain b.last w in
        let m =
        rw (
          ← b.rows.next,
          ← idriss_row_at_lem is_table3 (neighbour_below idriss T),
          ← idriss_row_at_lem is_table3 (neighbour_above idriss T),
        ) at
        (idriss_between_promise is_table3 s.mechanism d b.step) in
        median_ends (between_ends (2 * idriss_width) (omega arith) m) (omega arith) (omega arith) m.reaches)

  idriss_sigma_lem : SoundEnds idriss_sigma_width (idriss_sigma T s.magnitude) (idriss_sigma_of T s.magnitude)
  idriss_sigma_lem =
      let g = idriss_sigma_promise T s.magnitude in
      ends_of _ idriss_promise.sigma_width idriss_sigma_width (omega arith) g.encloses g.narrow g.small

  module _ {R : ℕ} (w : Within boore_atkinson s.magnitude R s.velocity s.mechanism s.period) where
    boore_atkinson_median_lem : MedianEnds (width_at boore_atkinson T boore_atkinson_width)
        (boore_atkinson_median_by R s)
        (boore_atkinson_median_ends s.magnitude R s.velocity s.mechanism T)
    boore_atkinson_median_lem =
        by_tabled MedianEnds (has_row boore_atkinson T)
        (λ e.
        let d = boore_atkinson_median_domain (boore_atkinson_row_lem T e) w in
        let m = rw (← row_at_lem T) at (boore_atkinson_median_promise s.mechanism d) in
        let r = rw (← row_at_lem T) at (boore_atkinson_median_reaches s.mechanism d) in
        let width = boore_atkinson_promise.median_width in
        let own = ends_of _ width boore_atkinson_width (omega arith) m.encloses m.narrow m.small in
        median_ends own (omega arith) (omega arith) r)
        (λ e.
        let b = on_step boore_atkinson_tabled T e w.period_answered in
        let d = boore_atkinson_median_domain b.last w in
        let m =
        rw (
          ← b.rows.next,
          ← row_at_lem (neighbour_below boore_atkinson T),
          ← row_at_lem (neighbour_above boore_atkinson T),
        ) at
        (median_between_of_promise s.mechanism (not_first b.rows) d b.step) in
        median_ends (between_ends (2 * boore_atkinson_width) (omega arith) m) (omega arith) (omega arith) m.reaches)

    boore_atkinson_sigma_lem : SoundEnds (cond (has_row boore_atkinson T) 0 sigma_between_width)
        (boore_atkinson_sigma_by s) (boore_atkinson_sigma_ends s.mechanism T)
    boore_atkinson_sigma_lem =
        by_tabled SoundEnds (has_row boore_atkinson T)
        (λ e.
        let g = rw (← total_at_lem T) at (boore_atkinson_sigma_promise _ s.mechanism (boore_atkinson_row_lem T e)) in
        ends_of _ 0 0 (omega arith) g.encloses (no_units _ g.equal) g.small)
        (λ e.
        let b = on_step boore_atkinson_tabled T e w.period_answered in
        let T1 = neighbour_below boore_atkinson T in
        let T2 = neighbour_above boore_atkinson T in
        let g =
        rw (← b.rows.next, ← total_at_lem T1, ← total_at_lem T2) at
        (sigma_between_of_promise s.mechanism (not_first b.rows) b.last b.step) in
        between_ends sigma_between_width (omega arith) g)

-- ---- the four ends of an accepted scenario

-- they enclose what the model gives, a double equals each, and the median's lie within the range
pub record Sound (s : Scenario) (e : Enclosure ℤ) : Type 0 where
  pub median_enclosed : EnclosedWithin (median_width s) (median s) e.median.low e.median.high
  pub sigma_enclosed : EnclosedWithin (sigma_width s) (sigma s) e.sigma.low e.sigma.high
  pub small : SmallEnclosure e
  pub in_range : InRange e.median

module _ (s : Scenario) where
  -- by what the model gives and what is computed
  sound_by : (f : Formula) (e : Enclosure ℤ) → median s ≡ f → enclosure_of s ≡ e →
      MedianEnds (median_width s) f e.median → SoundEnds (sigma_width s) (sigma s) e.sigma → Sound s (enclosure_of s)
  sound_by f e gives computes m g =
      rw computes (record {
        median_enclosed = rw gives m.own.enclosed;
        sigma_enclosed = g.enclosed;
        small = record { median = m.own.small; sigma = g.small };
        in_range = m.inside;
      })

  idriss_sound : s.model ≡ 1 → WithinBy idriss s → Sound s (enclosure_of s)
  unfolding median sigma median_width sigma_width enclosure_of idriss_enclosure_of
  idriss_sound model w =
      let at_distance : ℕ → Formula = λ R. idriss_median_by (table_for s.magnitude) R s in
      let e = idriss_enclosure_of s.magnitude w.distance s.velocity s.mechanism s.period in
      sound_by (at_distance w.distance) e (rw (model, w.reads) refl)
      (rw (model, w.reads) refl)
      (rw model (idriss_median_lem s w.within (takes_table3 s.magnitude))) (rw model (idriss_sigma_lem s))

  boore_atkinson_sound : s.model ≡ 2 → WithinBy boore_atkinson s → Sound s (enclosure_of s)
  unfolding median sigma median_width sigma_width enclosure_of boore_atkinson_enclosure_of
  boore_atkinson_sound model w =
      let at_distance : ℕ → Formula = λ RJB. boore_atkinson_median_by RJB s in
      let e = boore_atkinson_enclosure_of s.magnitude w.distance s.velocity s.mechanism s.period in
      sound_by (at_distance w.distance) e (rw (model, w.reads) refl)
      (rw (model, w.reads) refl)
      (rw model (boore_atkinson_median_lem s w.within)) (rw model (boore_atkinson_sigma_lem s w.within))

  pub sound : refusal_of s ≡ 0 → Sound s (enclosure_of s)
  sound accepted =
      ⊎_elim (λ p. idriss_sound p.0 p.1) (λ p. boore_atkinson_sound p.0 p.1) (of_model s accepted)

-- ---- nothing encloses the median of a scenario that lacks the distance that its model reads

absent : (o : Option ℕ) → is_absent o ≡ true → o ≡ None
absent None e = refl
absent (Some x) e = absurd (false≢true e)

module _ (s : Scenario) where
  undefined_at : lacks_distance s ≡ true → median s ≡ undefined
  unfolding lacks_distance median
  undefined_at = go (eqb s.model 1) (eqb s.model 2) refl refl
    where
      go : (a b : Bool) → eqb s.model 1 ≡ a → eqb s.model 2 ≡ b →
          ((a && is_absent (idriss.reads s)) || (b && is_absent (boore_atkinson.reads s))) ≡ true → median s ≡ undefined
      go true true p q e = absurd (omega (arith, eqb-true s.model 1 p, eqb-true s.model 2 q))
      go true false p q e = rw (p, absent (idriss.reads s) (rw or-false at e)) refl
      go false true p q e = rw (p, absent (boore_atkinson.reads s) e) refl
      go false false p q e = absurd (false≢true e)

  pub nothing_encloses : {P : Pair} → lacks_distance s ≡ true → Encloses P (median s) → ⊥
  unfolding Defined
  nothing_encloses e h = let d = rw (undefined_at e) at (h.defined 1 (le_refl 1)) in omega (arith, d)
