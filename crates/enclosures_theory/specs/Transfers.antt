-- What the program writes to standard output and to standard error, by how far reading and writing came. Of reads and
-- writes that fail document 01 says nothing.
use Rattle.std.specs.Prelude.{◌≡◌, List, [], ◌++◌, ℕ, ◌≤◌, ◌<◌, take, Result, Ok, Err}
use Rattle.report_theory.specs.Text.{ascii, decimal}
use Rattle.enclosures_theory.specs.declared.Failed.{Failed}
use Rattle.enclosures_theory.specs.Output.{ended, lines_of}

-- how far a read or a write came
abbrev pub Transfer : Type 0
Transfer = Result ℕ Failed

-- a read into so many bytes: complete with at most so many (that the input has then ended, or they are full, is seen in
-- `read_all`), or failed before they are full
abbrev pub ReadInto : ℕ → Transfer → Type 0
ReadInto most (Ok n) = n ≤ most
ReadInto most (Err f) = f.0 < most

-- a write of so many bytes: complete with all of them, or failed before
abbrev pub WrittenOf : ℕ → Transfer → Type 0
WrittenOf all (Ok n) = n ≡ all
WrittenOf all (Err f) = f.0 < all

-- to standard output: all that is printed for the bytes read, and nothing after a read that failed
abbrev pub output_of : Transfer → List ℕ → List ℕ
output_of (Ok n) bytes = lines_of (take n bytes)
output_of (Err f) bytes = []

-- the line that says how many bytes came in before reading failed
unfoldable pub input_failed : ℕ → List ℕ
input_failed n = ascii "enclosures: standard input failed after " ++ (decimal n ++ ascii " bytes")

-- and how many of all bytes went out before writing failed
unfoldable pub output_failed : ℕ → ℕ → List ℕ
output_failed n all =
    ascii "enclosures: standard output failed after " ++
    (decimal n ++ (ascii " of " ++ (decimal all ++ ascii " bytes")))

-- to standard error, by the read, the write and how many bytes were to be written: one line where either failed
abbrev pub error_of : Transfer → Transfer → ℕ → List ℕ
error_of (Err f) written all = ended (input_failed f.0)
error_of (Ok n) (Err f) all = ended (output_failed f.0 all)
error_of (Ok n) (Ok k) all = []
