-- What reading and writing answer, and the bytes that they hand back or leave.
-- Document 01, 'Records and doubles' and 'What is turned away'; document 02, W-202, for the distances.
use Rattle.std.specs.Prelude.{◌≡◌, not, ◌&&◌, List, [], ◌∷◌, ◌++◌, ℕ, ◌+◌, eqb, ltb, length, get_or, drop}
use Rattle.std.specs.Prelude.{Option, Some, Result, Ok, Err}
use Rattle.scenario_theory.specs.declared.Scenario.{Scenario}
use Rattle.scenario_theory.specs.declared.Refusal.{Refusal}
use Rattle.scenario_theory.specs.Checks.{◌when◌, ◌otherwise◌, unless_refused}
use Rattle.scenario_theory.specs.Distances.{rupture_number, projection_number}
use Rattle.scenario_theory.specs.Refusal.{refusal_of}
use Rattle.scenario_theory.specs.Numbers.{refusal_number, with_number}
use Rattle.record_theory.specs.Layout.{layout, scenario_of, stands, size_of, numbers_of, absent_written, record_of}

-- what reading answers, the scenario and the length of its record, and what writing answers, the length, or why it is
-- turned away
abbrev pub Reading : Type 0
Reading = Result (Scenario × ℕ) Refusal

abbrev pub Writing : Type 0
Writing = Result ℕ Refusal

-- ---- reading

-- the map byte at the front of s
abbrev pub map_in : List ℕ → ℕ
map_in s = get_or s 0 0

-- the scenario of the record there
unfoldable pub scenario_in : List ℕ → Scenario
scenario_in s = scenario_of (numbers_of layout (map_in s) (drop 1 s))

-- the length of a record with the map byte m
unfoldable pub length_by : ℕ → ℕ
length_by m = 1 + size_of layout m

-- the checks of the map byte: 8 "Only bit 7 is spare now", "9 for bits 0 and 1 keeps its place" (W-202), 10 "no bit
-- stands"
unfoldable pub map_refusal : ℕ → ℕ
map_refusal m =
    8 when stands 7 m otherwise
    9 when not (stands 0 m && stands 1 m) otherwise
    10 when eqb m 0

-- "Reading checks 7 (no map byte), 8, 9, 10, 7 (fields), 11, then 1 to 6", where "9 for the distance comes after 11",
-- and 13 "just before 1" (W-202): the first that applies, 0 where none does
unfoldable pub read_refusal : List ℕ → ℕ
read_refusal s =
    7 when eqb (length s) 0 otherwise
    map_refusal (map_in s) otherwise
    7 when ltb (length s) (length_by (map_in s)) otherwise
    11 when absent_written layout (map_in s) (scenario_in s) otherwise
    refusal_of (scenario_in s)

-- "Reading hands back the scenario", with its record's length, or the number
unfoldable pub read_of : List ℕ → Reading
read_of s =
    unless_refused (read_refusal s) (Ok (scenario_in s, length_by (map_in s))) (Err (with_number (read_refusal s)))

-- where the rest begins, counted from the first byte
unfoldable pub rest_at : List ℕ → ℕ
rest_at s = unless_refused (read_refusal s) (length_by (map_in s)) 0

-- "the rest of the caller's bytes"; "a refused read hands back none of the bytes"
unfoldable pub rest_of : List ℕ → List ℕ
rest_of s = unless_refused (read_refusal s) (drop (length_by (map_in s)) s) []

-- "this paper's number and values for each of its cases" ('What form each place needs'): 0 is no refusal
abbrev pub reading_number : Reading → ℕ
reading_number (Ok x) = 0
reading_number (Err e) = refusal_number e

-- the fields in the layout's order, and the record's length; "An absent distance has no number" (W-202)
abbrev pub values_of : Scenario → ℕ → List (Option ℕ)
values_of x n =
    Some x.model ∷
    Some x.magnitude ∷
    rupture_number x.rupture ∷
    Some x.velocity ∷
    Some x.mechanism ∷
    Some x.period ∷
    projection_number x.projection ∷
    Some n ∷
    []

abbrev pub reading_values : Reading → List (Option ℕ)
reading_values (Ok x) = values_of x.0 x.1
reading_values (Err e) = []

-- what is promised of a reading of s, by number and values: "A refusal returns its number only"
pub record ReadPromise (s : List ℕ) (r : Reading) : Type 0 where
  pub number : reading_number r ≡ read_refusal s
  pub values : reading_values r ≡ unless_refused (read_refusal s) (values_of (scenario_in s) (length_by (map_in s))) []

-- ---- writing

-- "Writing checks 1 to 6, then 12", "lent bytes shorter than the record"; it begins "with 9 for the distance", and 13
-- (W-202)
unfoldable pub write_refusal : Scenario → List ℕ → ℕ
write_refusal x lent = refusal_of x otherwise 12 when ltb (length lent) (length (record_of x))

-- "it returns the record's length"
unfoldable pub write_of : Scenario → List ℕ → Writing
write_of x lent =
    unless_refused (write_refusal x lent) (Ok (length (record_of x))) (Err (with_number (write_refusal x lent)))

-- the lent bytes afterwards: "the record at the front of the lent bytes", "all later bytes unchanged"; with a refusal
-- "lent bytes do not change"
unfoldable pub lent_after : Scenario → List ℕ → List ℕ
lent_after x lent = unless_refused (write_refusal x lent) (record_of x ++ drop (length (record_of x)) lent) lent

-- the number and the values of each case, as of a reading
abbrev pub writing_number : Writing → ℕ
writing_number (Ok n) = 0
writing_number (Err e) = refusal_number e

abbrev pub writing_values : Writing → List ℕ
writing_values (Ok n) = n ∷ []
writing_values (Err e) = []

-- what is promised of writing x to lent bytes
pub record WritePromise (x : Scenario) (lent : List ℕ) (r : Writing) : Type 0 where
  pub number : writing_number r ≡ write_refusal x lent
  pub values : writing_values r ≡ unless_refused (write_refusal x lent) (length (record_of x) ∷ []) []
