-- What the program prints. Document 01, 'Records and doubles', the last paragraph; the byte 10 ends a line.
use Rattle.std.specs.Prelude.{List, [], ◌∷◌, ◌++◌, ℕ, zero, suc, ◌+◌, length}
use Rattle.scenario_theory.specs.Checks.{unless_refused}
use Rattle.record_theory.specs.Outcome.{read_refusal, rest_of}
use Rattle.engine_theory.specs.Evaluation.{record_answer_of}
use Rattle.report_theory.specs.Text.{ascii}
use Rattle.report_theory.specs.Lines.{line_of, last_line_of}

-- a line and its end
abbrev pub ended : List ℕ → List ℕ
ended line = line ++ (10 ∷ [])

-- what comes after `count` lines where these bytes are left, in at most k steps: "one line for each record (position
-- from 1 ..)", 'and "end" with the count of those record lines'; "It stops after an R or when no byte is left"
unfoldable pub lines_from : ℕ → ℕ → List ℕ → List ℕ
lines_from zero count bytes = ended (last_line_of count)
lines_from (suc k) count [] = ended (last_line_of count)
lines_from (suc k) count (b ∷ bytes) =
    ended (line_of (count + 1) (record_answer_of (b ∷ bytes))) ++
    unless_refused (read_refusal (b ∷ bytes)) (lines_from k (count + 1) (rest_of (b ∷ bytes)))
    (ended (last_line_of (count + 1)))

-- a step for each byte is enough (`lines_step` of proofs/OutputLaws)
unfoldable pub lines_after : ℕ → List ℕ → List ℕ
lines_after count bytes = lines_from (length bytes) count bytes

-- all that is printed for the bytes that are taken from standard input: 'It prints the line "enclosures"', ..
unfoldable pub lines_of : List ℕ → List ℕ
lines_of bytes = ended (ascii "enclosures") ++ lines_after 0 bytes
