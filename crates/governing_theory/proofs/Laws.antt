-- What is computed of the scenario that governs a sheet is as promised.
use mathlib.Core.Path.{◌≡◌, refl, sym, ap, ◌∙◌}
use mathlib.Core.Bool.{Bool, true, false, ◌&&◌}
use mathlib.Core.List.{List, [], ◌∷◌}
use Prim.Native.Nat.{ℕ, suc, ◌≤◌, ◌<◌}
use native.Mathlib.Decide.{dec_lt}
use native.Mathlib.Omega.{arith}
use lib.Dec.{T, eqb, eqb→eq}
use lib.IntN.{ℤ}
use lib.ListN.{length, get_or, take, replicate}
use lib.Signed.{le_z, ◌≤ℤ◌, ◌<ℤ◌, le_z_yes}
use Rattle.std.specs.Prelude.{if◌then◌else◌, Option, Some, None}
use Rattle.toolbox_theory.proofs.Tests.{both}
use Rattle.toolbox_theory.proofs.Whole.{gt_out, ≤ℤ_trans, <ℤ_in}
use Rattle.exact_theory.specs.Formula.{ends, Encloses}
use Rattle.exact_theory.proofs.UnitLaws.{in_order}
use Rattle.scenario_theory.specs.declared.Scenario.{Scenario}
use Rattle.engine_theory.specs.Models.{median}
use Rattle.engine_theory.specs.Promise.{EnclosesBoth}
use Rattle.sheet_theory.specs.declared.FlatSheet.{FlatSheet}
use Rattle.sheet_theory.specs.Promise.{sheet_most, answer_at, SheetPromise}
use Rattle.sheet_theory.specs.Evaluation.{answered_count, sheet_of}
use Rattle.sheet_theory.proofs.Filling.{all_z}
use Rattle.sheet_theory.proofs.Laws.{sheet_promised, sheet_alike}
use Rattle.governing_theory.specs.declared.FlatScreening.{FlatScreening}
use Rattle.governing_theory.specs.declared.Greatest.{Greatest}
use Rattle.governing_theory.specs.Promise.{Accepted, low_at, high_at, ends_at, GreatestAt, Named, Marked}
use Rattle.governing_theory.specs.Promise.{GreatestLow, ToMark, Outdone, Governs, GoverningPromise}
use Rattle.governing_theory.specs.Evaluation.{marks_of, no_screening, screening_by}
use Rattle.governing_theory.specs.Evaluation.{screening_of, governing_of}
use Rattle.governing_theory.proofs.Less.{less}
use Rattle.governing_theory.proofs.Leading.{Led, led}
use Rattle.governing_theory.proofs.Screening.{over_is, within_is}
use Rattle.governing_theory.proofs.Marks.{mark_before, mark_after}

-- ---- a mark by a test

abbrev flag : Bool → ℕ
flag b = if b then 1 else 0

one_when : (b : Bool) → T b → flag b ≡ 1
one_when true t = refl
one_when false t = elim t [ ]

when_one : (b : Bool) → flag b ≡ 1 → T b
when_one true e = tt
when_one false e = absurd (omega arith)

zero_when : (b : Bool) → (flag b ≡ 1 → ⊥) → flag b ≡ 0
zero_when true h = absurd (h refl)
zero_when false h = refl

-- what is not at least g is below g
above : (g z : ℤ) → (g ≤ℤ z → ⊥) → z <ℤ g
above g z h = by_bool (le_z g z) refl
  where
    by_bool : (b : Bool) → le_z g z ≡ b → z <ℤ g
    by_bool true e = absurd (h (le_z_yes (rw e tt)))
    by_bool false e = <ℤ_in (omega (arith, gt_out g z (rw e tt)))

-- ---- the ends of an accepted place

-- of four values the first two enclose the median
median_of_lem : {s : Scenario} {l h m n : ℤ} → EnclosesBoth s (l ∷ h ∷ m ∷ n ∷ []) → Encloses (ends l h) (median s)
median_of_lem {s} {l} {h} e =
    let four = e.four in
    let low : e.median_low ≡ l = cc in
    let high : e.median_high ≡ h = cc in
    rw (low, high) at e.median_enclosed.encloses

module _ (count : ℕ) (xs : List Scenario) (sheet : FlatSheet) (p : SheetPromise count xs sheet) where
  -- they enclose the median of its scenario, and so they are in order
  enclosed_at : (d : Scenario) (i : ℕ) → Accepted sheet i → Encloses (ends_at sheet i) (median (get_or xs i d))
  enclosed_at d i (within, accepted) =
      let place = (p.places i d within).promise in
      median_of_lem (place.enclosed (sym place.number ∙ accepted))

  ordered : (d : Scenario) (i : ℕ) → Accepted sheet i → low_at sheet i ≤ℤ high_at sheet i
  ordered d i a = in_order (enclosed_at d i a)

  -- to be at least the greatest low end is to be at least each
  by_greatest : {g : ℤ} → GreatestLow sheet g → (i : ℕ) → Accepted sheet i →
      (g ≤ℤ high_at sheet i → ToMark sheet i) × (ToMark sheet i → g ≤ℤ high_at sheet i)
  by_greatest {g} (q, low, here) i a =
      (λ h. (a, λ j b. ≤ℤ_trans g (rw here (low.greatest j b)) h), λ m. rw here (m.1 q low.accepted))

  -- ---- where nothing is accepted

  no_marks : (i : ℕ) → ◌≡◌ {A = ℕ} (get_or (replicate sheet_most 0) i 0) 0
  no_marks i = all_z 0 sheet_most i

  refused : (k : ℕ) → (k ≡ 0 → ⊥) → ((i : ℕ) → Accepted sheet i → ⊥) → (sheet_most < count → k ≡ 14) →
      (count ≤ sheet_most → k ≡ 15) → Governs count xs sheet (no_screening k)
  refused k some none over within =
      record {
        over = over;
        none = λ h _. within h;
        some = λ i a. absurd (none i a);
        named = λ z. absurd (some z);
        marked = λ i m. absurd (none i m.0);
        no_other = λ i m. absurd (omega (arith, m, no_marks i));
        no_mark = λ i _. no_marks i;
        by_greatest = λ g i a. absurd (none i a);
        outdone = λ i a. absurd (none i a);
        nothing = λ _. (refl, no_marks);
      }

  -- ---- where place k is to be named, and g, the low end at place q, is the greatest

  module _ (within : sheet.count ≤ sheet_most) (d : Scenario) {k q : ℕ} (named : Named sheet k)
      (low : GreatestAt sheet (low_at sheet) q) {g : ℤ} (here : g ≡ low_at sheet q) where
    abbrev screening : FlatScreening
    screening = record {
      number = 0;
      position = suc k;
      marks = marks_of g sheet.numbers sheet.median_high sheet.count;
    }

    -- what a mark before the count goes by
    abbrev passes : ℕ → Bool
    passes i = eqb (answer_at sheet i).number 0 && le_z g (high_at sheet i)

    mark_at : (i : ℕ) → i < sheet.count → get_or screening.marks i 0 ≡ flag (passes i)
    mark_at i h = mark_before g sheet.numbers sheet.median_high sheet.count i h within

    mark_past : (i : ℕ) → (i < sheet.count → ⊥) → get_or screening.marks i 0 ≡ 0
    mark_past i h = mark_after g sheet.numbers sheet.median_high sheet.count i (omega arith)

    marked : (i : ℕ) → ToMark sheet i → Marked screening i
    marked i m =
        mark_at i m.0.0
        ∙ rw m.0.1 (one_when (le_z g (high_at sheet i)) ((by_greatest (q, low, here) i m.0).1 m).le)

    no_other : (i : ℕ) → Marked screening i → ToMark sheet i
    no_other i m = elim (dec_lt i sheet.count) [
      | yes h ↦
          let t = both (eqb (answer_at sheet i).number 0) _ (when_one (passes i) (sym (mark_at i h) ∙ m)) in
          (by_greatest (q, low, here) i (h, eqb→eq _ 0 t.0)).0 (le_z_yes t.1)
      | no h ↦ absurd (omega (arith, m, mark_past i h))
    ]

    no_mark : (i : ℕ) → (Marked screening i → ⊥) → get_or screening.marks i 0 ≡ 0
    no_mark i m = elim (dec_lt i sheet.count) [
      | yes h ↦ mark_at i h ∙ zero_when (passes i) (λ e. m (mark_at i h ∙ e))
      | no h ↦ mark_past i h
    ]

    -- what is not marked is below the greatest low end, whose place is marked
    outdone : (i : ℕ) → Accepted sheet i → (Marked screening i → ⊥) →
        (j : ℕ) × Marked screening j × Outdone xs sheet i j
    outdone i a m =
        let below : high_at sheet i <ℤ low_at sheet q =
        rw here at (above _ _ (λ h. m (marked i ((by_greatest (q, low, here) i a).0 h)))) in
        let l = less (low_at sheet i) (high_at sheet q) below in (
          q,
          marked q (low.accepted, λ j b. ≤ℤ_trans _ (low.greatest j b) (ordered d q low.accepted)),
          record {
            below = below;
            enclosed = l;
            medians = λ e n fine. l.values _ _ (enclosed_at e i a) (enclosed_at e q low.accepted) n fine;
          },
        )

    answered : count ≤ sheet_most → Governs count xs sheet screening
    answered few =
        record {
          over = λ h. absurd (omega arith);
          none = λ _ none. absurd (none k named.high.accepted);
          some = λ i a. refl;
          named = λ _. (
            k,
            omega arith,
            named,
            marked k
                (named.high.accepted, λ j b. ≤ℤ_trans _ (ordered d j b) (named.high.greatest j b)),
          );
          marked = marked;
          no_other = no_other;
          no_mark = no_mark;
          by_greatest = λ l i a.
              let e = by_greatest l i a in
              (λ h. marked i (e.0 h), λ m. e.1 (no_other i m));
          outdone = outdone;
          nothing = λ h. absurd (h refl);
        }

  -- ---- as it is computed

  by_places : Scenario → count ≤ sheet_most → (high low : Option Greatest) →
      Led sheet.numbers sheet.median_high sheet.count high → Led sheet.numbers sheet.median_low sheet.count low →
      Governs count xs sheet (screening_by high low sheet)
  by_places d within None low none l =
      refused 15 (λ z. omega arith) none (λ h. absurd (omega arith)) (λ _. refl)
  by_places d within (Some b) None (k, h) none = absurd (none k h.accepted)
  by_places d within (Some b) (Some c) (k, h) (q, l) =
      rw h.position
      (answered (omega (arith, (p.within within).1)) d
      (record { high = record { accepted = h.accepted; greatest = h.greatest }; first = h.first })
      (record { accepted = l.accepted; greatest = l.greatest }) l.here within)

  screened : Scenario → Governs count xs sheet (screening_of sheet)
  screened d = elim (dec_lt sheet_most count) [
    | yes over ↦
        let e = p.over over in
        rw (over_is sheet (λ z. omega (arith, e.0)))
        (refused sheet.number (λ z. omega (arith, e.0)) (λ i a. omega (arith, e.1, a.0)) (λ _. e.0)
        (λ h. absurd (omega arith)))
    | no within ↦
        let few : count ≤ sheet_most = omega arith in
        rw (within_is sheet (p.within few).0) (by_places d few _ _ (led _ _ _) (led _ _ _))
  ]

-- an array of 64 has a first scenario
some_scenario : (xs : List Scenario) → length xs ≡ sheet_most → Scenario
some_scenario [] long = absurd (omega arith)
some_scenario (x ∷ xs) long = x

-- every result of which a contract says `r ≡ governing_of ..` keeps the promise
pub governing_promised : (count : ℕ) (xs : List Scenario) → length xs ≡ sheet_most → {r : FlatScreening} →
    r ≡ governing_of count xs → (r ≡ governing_of count xs) × GoverningPromise count xs r
unfolding governing_of
governing_promised count xs long e =
    (e, rw e (screened count xs (sheet_of count xs) (sheet_promised count xs long refl).1 (some_scenario xs long)))

-- scenarios from the count on are not looked at
pub governing_alike : (count : ℕ) (xs ys : List Scenario) →
    take (answered_count count) xs ≡ take (answered_count count) ys → governing_of count xs ≡ governing_of count ys
unfolding governing_of
governing_alike count xs ys e = ap screening_of (sheet_alike count xs ys e)
