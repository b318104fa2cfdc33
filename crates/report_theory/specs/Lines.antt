-- The line of an answer. Document 01, 'Records and doubles', on the program: "one line for each record (position from
-- 1, E and four ends in the order of the answer, or R and the number, single spaces)".
use Rattle.std.specs.Prelude.{cond, List, [], ◌∷◌, ◌++◌, map, ℕ, ℤ, ltb, length, drop, Result, Ok, Err}
use Rattle.scenario_theory.specs.Numbers.{refusal_number}
use Rattle.engine_theory.specs.declared.Enclosure.{Enclosure}
use Rattle.engine_theory.specs.Promise.{Answer, shown_ends}
use Rattle.report_theory.specs.Text.{ascii, decimal, signed_decimal, spaced}

-- "E and four ends in the order of the answer, or R and the number"; 69 is the byte of E, 82 that of R
abbrev pub words_of : Answer → List (List ℕ)
words_of (Ok e) = (69 ∷ []) ∷ map signed_decimal (shown_ends (Ok e))
words_of (Err r) = (82 ∷ []) ∷ (decimal (refusal_number r) ∷ [])

-- the line, without its line end
unfoldable pub line_of : ℕ → Answer → List ℕ
line_of position a = decimal position ++ spaced (words_of a)

-- and that of a refusal with any number
abbrev pub refused_line_of : ℕ → ℕ → List ℕ
refused_line_of position k = decimal position ++ spaced ((82 ∷ []) ∷ decimal k ∷ [])

-- the line of an answer or of a refusal, which is whatever has a number; of a `Refusal` it is `line_of` (`by_refusal`
-- of proofs/LineLaws)
unfoldable pub numbered_line_of : {R : Type 0} → (R → ℕ) → ℕ → Result (Enclosure ℤ) R → List ℕ
numbered_line_of number position (Ok e) = line_of position (Ok e)
numbered_line_of number position (Err r) = refused_line_of position (number r)

-- '"end" with the count of those record lines', without its line end
abbrev pub end_bytes : List ℕ
end_bytes = ascii "end "

unfoldable pub last_line_of : ℕ → List ℕ
last_line_of count = end_bytes ++ decimal count

-- ---- on lent bytes, of which document 01 says nothing: the line at their front, later bytes unchanged; where it does
-- not fit, its length is 0 and nothing is written

unfoldable pub length_on : List ℕ → List ℕ → ℕ
length_on line lent = cond (ltb (length lent) (length line)) 0 (length line)

unfoldable pub bytes_after : List ℕ → List ℕ → List ℕ
bytes_after line lent = cond (ltb (length lent) (length line)) lent (line ++ drop (length line) lent)
