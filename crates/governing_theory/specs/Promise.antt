-- What is promised of the scenario that governs a sheet, whatever the engine computes: request W-206.
use Rattle.std.specs.Prelude.{◌≡◌, List, ℕ, ◌+◌, ◌≤◌, ◌<◌, ℤ, get_or, ◌≤ℤ◌, ◌<ℤ◌}
use Rattle.exact_theory.specs.Pair.{Pair}
use Rattle.exact_theory.specs.Formula.{ends}
use Rattle.scenario_theory.specs.declared.Scenario.{Scenario}
use Rattle.engine_theory.specs.Models.{median}
use Rattle.sheet_theory.specs.declared.FlatSheet.{FlatSheet}
use Rattle.sheet_theory.specs.Promise.{sheet_most, answer_at}
use Rattle.sheet_theory.specs.Evaluation.{sheet_of}
use Rattle.governing_theory.specs.declared.FlatScreening.{FlatScreening}
use Rattle.governing_theory.specs.Less.{ValueBelow, Less}

-- ---- the places of a sheet, counted from 0

-- place i has an accepted scenario: it is before the count, and "an accepted place holds 0 as its number" (W-204)
abbrev pub Accepted : FlatSheet → ℕ → Type 0
Accepted sheet i = (i < sheet.count) × ((answer_at sheet i).number ≡ 0)

-- "Ends here are the median's"
abbrev pub low_at : FlatSheet → ℕ → ℤ
low_at sheet i = (answer_at sheet i).median_low

abbrev pub high_at : FlatSheet → ℕ → ℤ
high_at sheet i = (answer_at sheet i).median_high

abbrev pub ends_at : FlatSheet → ℕ → Pair
ends_at sheet i = ends (low_at sheet i) (high_at sheet i)

-- of the ends at all places, that at place i is "the greatest .. among the accepted scenarios"
pub record GreatestAt (sheet : FlatSheet) (end : ℕ → ℤ) (i : ℕ) : Type 0 where
  pub accepted : Accepted sheet i
  pub greatest : (j : ℕ) → Accepted sheet j → end j ≤ℤ end i

-- ---- which is named, and which are marked

-- "The engine names the accepted scenario with the greatest high end ..; of equal ones, the first"
pub record Named (sheet : FlatSheet) (i : ℕ) : Type 0 where
  pub high : GreatestAt sheet (high_at sheet) i
  pub first : (j : ℕ) → j < i → Accepted sheet j → high_at sheet j <ℤ high_at sheet i

-- place i has a mark
abbrev pub Marked : FlatScreening → ℕ → Type 0
Marked r i = get_or r.marks i 0 ≡ 1

-- g is "the greatest low end among the accepted scenarios"
abbrev pub GreatestLow : FlatSheet → ℤ → Type 0
GreatestLow sheet g = (i : ℕ) × GreatestAt sheet (low_at sheet) i × (g ≡ low_at sheet i)

-- "every accepted scenario whose high end is at least the greatest low end among the accepted scenarios", that is at
-- least the low end of each of them
abbrev pub ToMark : FlatSheet → ℕ → Type 0
ToMark sheet i = Accepted sheet i × ((j : ℕ) → Accepted sheet j → low_at sheet j ≤ℤ high_at sheet i)

-- the scenario at place i is less than that at place j: "high end lies below the low end of some marked one, so that
-- its enclosed value is the less", and of the two medians, too; d is never taken
pub record Outdone (scenarios : List Scenario) (sheet : FlatSheet) (i j : ℕ) : Type 0 where
  pub below : high_at sheet i <ℤ low_at sheet j
  pub enclosed : Less (ends_at sheet i) (ends_at sheet j)
  pub medians : (d : Scenario) (n : ℕ) → 1 ≤ n →
      ValueBelow n (ends_at sheet i) (median (get_or scenarios i d)) (ends_at sheet j) (median (get_or scenarios j d))

-- over the places of a sheet of so many scenarios
pub record Governs (count : ℕ) (scenarios : List Scenario) (sheet : FlatSheet) (r : FlatScreening) : Type 0 where
  -- 14, "more than 64 scenarios"; "15, no scenario on the sheet is accepted, checked after 14"; else 0
  pub over : sheet_most < count → r.number ≡ 14
  pub none : count ≤ sheet_most → ((i : ℕ) → Accepted sheet i → ⊥) → r.number ≡ 15
  pub some : (i : ℕ) → Accepted sheet i → r.number ≡ 0
  -- "by its position counted from 1"; "The named scenario is marked"
  pub named : r.number ≡ 0 → (i : ℕ) × (r.position ≡ i + 1) × Named sheet i × Marked r i
  -- "It also marks every accepted scenario whose .., and no other": a mark is 1, and what is none is 0
  pub marked : (i : ℕ) → ToMark sheet i → Marked r i
  pub no_other : (i : ℕ) → Marked r i → ToMark sheet i
  pub no_mark : (i : ℕ) → (Marked r i → ⊥) → get_or r.marks i 0 ≡ 0
  -- the same by the greatest low end itself
  pub by_greatest : {g : ℤ} → GreatestLow sheet g → (i : ℕ) → Accepted sheet i →
      (g ≤ℤ high_at sheet i → Marked r i) × (Marked r i → g ≤ℤ high_at sheet i)
  -- "Every unmarked accepted scenario's high end lies below the low end of some marked one"
  pub outdone : (i : ℕ) → Accepted sheet i → (Marked r i → ⊥) → (j : ℕ) × Marked r j × Outdone scenarios sheet i j
  -- "with either number nothing is named or marked"
  pub nothing : (r.number ≡ 0 → ⊥) → (r.position ≡ 0) × ((i : ℕ) → get_or r.marks i 0 ≡ 0)

-- the scenario that governs, of the first count of the scenarios
abbrev pub GoverningPromise : ℕ → List Scenario → FlatScreening → Type 0
GoverningPromise count scenarios r = Governs count scenarios (sheet_of count scenarios) r
