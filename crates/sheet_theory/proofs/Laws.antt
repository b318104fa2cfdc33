-- A sheet as it is computed is as promised, and rests on the first scenarios alone.
use mathlib.Core.Path.{◌≡◌, refl, ap}
use mathlib.Core.List.{List, map}
use Prim.Native.Nat.{ℕ, ◌≤◌, ◌<◌}
use native.Mathlib.Omega.{arith}
use borrow.Author.Tests.{lt-ltb, le-ltb}
use lib.Dec.{ltb, nltb→le}
use lib.IntN.{ℤ}
use lib.ListN.{length, get_or, take}
use Rattle.std.specs.Prelude.{Result, Ok, Err}
use Rattle.std.specs.Result.{result_unwrap_or}
use Rattle.toolbox_theory.proofs.Tests.{by_test}
use Rattle.scenario_theory.specs.declared.Scenario.{Scenario}
use Rattle.scenario_theory.specs.declared.Refusal.{Refusal}
use Rattle.scenario_theory.specs.declared.Refusal.TheVariants.{TooManyScenarios}
use Rattle.scenario_theory.specs.Numbers.{refusal_number}
use Rattle.scenario_theory.specs.Refusal.{refusal_of}
use Rattle.scenario_theory.proofs.NumberLaws.{refusal_numbered}
use Rattle.engine_theory.specs.declared.FlatAnswer.{FlatAnswer}
use Rattle.engine_theory.specs.Evaluation.{answer_of}
use Rattle.engine_theory.specs.Flat.{told}
use Rattle.engine_theory.proofs.FlatLaws.{flat_answers}
use Rattle.sheet_theory.specs.declared.FlatSheet.{FlatSheet}
use Rattle.sheet_theory.specs.Promise.{sheet_most, no_answer, answer_at, PlacePromise, SheetPromise}
use Rattle.sheet_theory.specs.Evaluation.{filled, column, head_of, answered_count, sheet_by, sheet_with, sheet_of}
use Rattle.sheet_theory.proofs.Filling.{filled_before, filled_after, filled_alike, filled_front}

module _ {B : Type 0} where
  -- a field of what the single call gives
  abbrev pub field_of : (FlatAnswer → B) → Scenario → B
  field_of field s = field (told (answer_of s))

-- with more than 64 scenarios, and otherwise
head_over : (count : ℕ) → sheet_most < count → head_of count ≡ Err TooManyScenarios
head_over count h = rw (lt-ltb sheet_most count h) refl

head_within : (count : ℕ) → count ≤ sheet_most → head_of count ≡ Ok count
head_within count h = rw (le-ltb sheet_most count h) refl

-- no more are answered than there are places
pub few : (count : ℕ) → answered_count count ≤ sheet_most
few count =
    by_test (ltb sheet_most count) (λ (h : Result ℕ Refusal). result_unwrap_or h 0 ≤ sheet_most) (λ t. omega arith)
    (λ t. nltb→le sheet_most count t)

-- what goes with either head
pub with_count : (count : ℕ) {n : ℕ} (xs : List Scenario) → head_of count ≡ Ok n →
    (n ≤ sheet_most) × (sheet_of count xs ≡ sheet_by 0 n xs)
unfolding sheet_of
with_count count xs e = (rw e at (few count), ap (λ (h : Result ℕ Refusal). sheet_with h xs) e)

pub with_refusal : (count : ℕ) {r : Refusal} (xs : List Scenario) → head_of count ≡ Err r →
    (0 ≤ sheet_most) × (sheet_of count xs ≡ sheet_by (refusal_number r) 0 xs)
unfolding sheet_of
with_refusal count xs e = (omega arith, ap (λ (h : Result ℕ Refusal). sheet_with h xs) e)

module _ (number n : ℕ) (xs : List Scenario) (there : n ≤ length xs) where
  -- an answer is at place i if each of its fields is there
  stands : (i : ℕ) (a : FlatAnswer) →
      ((B : Type 0) (field : FlatAnswer → B) → get_or (column field n xs) i (field no_answer) ≡ field a) →
      answer_at (sheet_by number n xs) i ≡ a
  stands i a at =
      rw (
        at ℕ (λ b. b.number),
        at ℤ (λ b. b.median_low),
        at ℤ (λ b. b.median_high),
        at ℤ (λ b. b.sigma_low),
        at ℤ (λ b. b.sigma_high),
      ) refl

  -- at a place before the count, and at one from it on
  before : (i : ℕ) (d : Scenario) → i < n → answer_at (sheet_by number n xs) i ≡ told (answer_of (get_or xs i d))
  before i d h = stands i _ (λ B field. filled_before (field_of field) (field no_answer) n xs i d h there)

  after : (i : ℕ) → n ≤ i → answer_at (sheet_by number n xs) i ≡ no_answer
  after i h = stands i _ (λ B field. filled_after (field_of field) (field no_answer) n xs i h there)

-- what equals what the single call gives keeps that call's promise
single : (s : Scenario) (a : FlatAnswer) → a ≡ told (answer_of s) → PlacePromise s a
unfolding answer_of
single s a e =
    let h = flat_answers s (refusal_of s) (λ z. z) (refusal_numbered s) e in
    record { single = h.0; promise = h.1 }

-- the places of a sheet with any head
held : (head : Result ℕ Refusal) (xs : List Scenario) → result_unwrap_or head 0 ≤ length xs → {r : FlatSheet} →
    r ≡ sheet_with head xs → ((i : ℕ) (d : Scenario) → i < r.count → PlacePromise (get_or xs i d) (answer_at r i))
    × ((i : ℕ) → r.count ≤ i → answer_at r i ≡ no_answer)
held (Ok n) xs there e = rw e (λ i d h. single _ _ (before 0 n xs there i d h), after 0 n xs there)
held (Err e) xs there is = rw is (λ i d h. absurd (omega arith), after (refusal_number e) 0 xs there)

promised : (count : ℕ) (xs : List Scenario) → length xs ≡ sheet_most → SheetPromise count xs (sheet_of count xs)
unfolding sheet_of
promised count xs long =
    let h = held (head_of count) xs (omega (arith, few count, long)) refl in
    record {
      over = λ h. rw (head_over count h) (refl, refl);
      within = λ h. rw (head_within count h) (refl, refl);
      places = h.0;
      zeros = h.1;
    }

-- every sheet of which a contract says `r ≡ sheet_of ..` keeps it
pub sheet_promised : (count : ℕ) (xs : List Scenario) → length xs ≡ sheet_most → {r : FlatSheet} →
    r ≡ sheet_of count xs →
    (r ≡ sheet_of count xs) × SheetPromise count xs r
sheet_promised count xs long e = (e, rw e (promised count xs long))

-- a sheet rests on as many of the first scenarios as are answered
by_alike : (number n : ℕ) (xs ys : List Scenario) → take n xs ≡ take n ys → sheet_by number n xs ≡ sheet_by number n ys
by_alike number n xs ys e =
    rw (
      same (λ a. a.number),
      same (λ a. a.median_low),
      same (λ a. a.median_high),
      same (λ a. a.sigma_low),
      same (λ a. a.sigma_high),
    ) refl
  where
    same : {B : Type 0} (field : FlatAnswer → B) → column field n xs ≡ column field n ys
    same field = filled_alike (field_of field) (field no_answer) n xs ys e

with_alike : (head : Result ℕ Refusal) (xs ys : List Scenario) →
    take (result_unwrap_or head 0) xs ≡ take (result_unwrap_or head 0) ys → sheet_with head xs ≡ sheet_with head ys
with_alike (Ok n) xs ys e = by_alike 0 n xs ys e
with_alike (Err r) xs ys e = by_alike (refusal_number r) 0 xs ys e

-- scenarios from the count on are not looked at
pub sheet_alike : (count : ℕ) (xs ys : List Scenario) →
    take (answered_count count) xs ≡ take (answered_count count) ys → sheet_of count xs ≡ sheet_of count ys
unfolding sheet_of
sheet_alike count xs ys e = with_alike (head_of count) xs ys e

-- so a sheet of scenarios that are each made by f needs no more of them made than the first count
pub sheet_made : {A : Type 0} (f : A → Scenario) (z : Scenario) (count n : ℕ) (xs : List A) → n ≤ length xs →
    answered_count count ≤ n → sheet_of count (filled f z n xs) ≡ sheet_of count (map f xs)
sheet_made f z count n xs there enough =
    sheet_alike count _ _ (filled_front f z (answered_count count) n xs enough there)
