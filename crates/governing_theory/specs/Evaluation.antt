-- What is computed of the scenario that governs a sheet: request W-206. Refused places are passed over by their number.
use Rattle.std.specs.Prelude.{Bool, true, ◌&&◌, if◌then◌else◌, List, ℕ, zero, suc, ◌==◌, ℤ, pos}
use Rattle.std.specs.Prelude.{get_or, set, replicate, Option, Some, None}
use Rattle.std.specs.Int.Signed.{lt_z, le_z}
use Rattle.std.specs.Option.{option_map_or}
use Rattle.scenario_theory.specs.declared.Scenario.{Scenario}
use Rattle.scenario_theory.specs.declared.Refusal.TheVariants.{NoneAccepted}
use Rattle.scenario_theory.specs.Numbers.{refusal_number}
use Rattle.sheet_theory.specs.declared.FlatSheet.{FlatSheet}
use Rattle.sheet_theory.specs.Promise.{sheet_most}
use Rattle.sheet_theory.specs.Evaluation.{sheet_of}
use Rattle.governing_theory.specs.declared.FlatScreening.{FlatScreening}
use Rattle.governing_theory.specs.declared.Greatest.{Greatest}

-- ---- the greatest end among the accepted places, with the first position that has it

-- a place with such a number and such an end takes the lead: it is accepted, and no place before it is, or its end is
-- above theirs
abbrev pub leads : Option Greatest → ℕ → ℤ → Bool
leads best number end = number == 0 && option_map_or (λ b. lt_z b.end end) best true

-- with one place more, after n others
abbrev pub with_place : Option Greatest → ℕ → ℕ → ℤ → Option Greatest
with_place best n number end = if leads best number end then Some (record { position = suc n; end = end }) else best

-- of the first n places, none where none is accepted
unfoldable pub greatest_of : List ℕ → List ℤ → ℕ → Option Greatest
greatest_of numbers ends zero = None
greatest_of numbers ends (suc n) =
    with_place (greatest_of numbers ends n) n (get_or numbers n 0) (get_or ends n (pos 0))

-- of a sheet: the greatest high end, and the greatest low end
abbrev pub greatest_high : FlatSheet → Option Greatest
greatest_high sheet = greatest_of sheet.numbers sheet.median_high sheet.count

abbrev pub greatest_low : FlatSheet → Option Greatest
greatest_low sheet = greatest_of sheet.numbers sheet.median_low sheet.count

-- ---- the marks

-- the mark of a place with such a number and such a high end, where g is the greatest low end
abbrev pub mark_of : ℤ → ℕ → ℤ → ℕ
mark_of g number high = if number == 0 && le_z g high then 1 else 0

-- of the first n places, then zeros
unfoldable pub marks_of : ℤ → List ℕ → List ℤ → ℕ → List ℕ
marks_of g numbers highs zero = replicate sheet_most 0
marks_of g numbers highs (suc n) =
    set (marks_of g numbers highs n) n (mark_of g (get_or numbers n 0) (get_or highs n (pos 0)))

-- ---- of a sheet

-- with a refusal
abbrev pub no_screening : ℕ → FlatScreening
no_screening k = record { number = k; position = 0; marks = replicate sheet_most 0 }

-- by the greatest high end and the greatest low end; where there is none, "15, no scenario on the sheet is accepted"
abbrev pub screening_by : Option Greatest → Option Greatest → FlatSheet → FlatScreening
screening_by (Some high) (Some low) sheet =
    record {
      number = 0;
      position = high.position;
      marks = marks_of low.end sheet.numbers sheet.median_high sheet.count;
    }
screening_by high low sheet = no_screening (refusal_number NoneAccepted)

-- the same of a sheet's own ends
abbrev pub screening_within : FlatSheet → FlatScreening
screening_within sheet = screening_by (greatest_high sheet) (greatest_low sheet) sheet

-- 15 is "checked after 14", the sheet's own number
unfoldable pub screening_of : FlatSheet → FlatScreening
screening_of sheet = if sheet.number == 0 then screening_within sheet else no_screening sheet.number

-- "The engine names the accepted scenario .. It also marks every accepted scenario .."
unfoldable pub governing_of : ℕ → List Scenario → FlatScreening
governing_of count scenarios = screening_of (sheet_of count scenarios)
