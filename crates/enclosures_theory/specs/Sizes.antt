-- How many bytes the program takes, and how many it has room for. The proofs show that they are enough.
use Rattle.std.specs.Prelude.{ℕ, ◌+◌, ◌*◌}

-- "It takes the first 4,096 bytes and ignores the rest."
abbrev pub bytes_taken : ℕ
bytes_taken = 4_096

-- a record that is read has six bytes or more: 682 of them, and one that is cut, are all the lines that there can be
abbrev pub lines_most : ℕ
lines_most = 683

-- the first line, a line of a record and the last line, each with its end
abbrev pub first_most : ℕ
first_most = 11

abbrev pub line_most : ℕ
line_most = 111

abbrev pub last_most : ℕ
last_most = 25

-- all that is printed
abbrev pub page_most : ℕ
page_most = first_most + line_most * lines_most + last_most

-- the line on standard error with its end, each of its two numbers of up to 20 digits
abbrev pub error_most : ℕ
error_most = 92
