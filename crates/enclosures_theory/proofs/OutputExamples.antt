-- Document 01's two examples of what is printed, and the two lines of a failure, letter by letter.
use mathlib.Core.Path.{◌≡◌, refl, ap}
use mathlib.Core.List.{List, [], ◌∷◌, ◌++◌}
use Prim.Native.Nat.{ℕ}
use native.Mathlib.Omega.{arith}
use Rattle.std.specs.Prelude.{Err}
use Rattle.scenario_theory.specs.declared.Refusal.TheVariants as E
use Rattle.record_theory.specs.Outcome.{scenario_in, length_by, map_refusal, read_refusal, read_of}
use Rattle.record_theory.specs.Layout.{size_of, numbers_of, absent_written}
use Rattle.scenario_theory.specs.Refusal.{beyond_periods, refusal_by, refusal_by_model, lacks_distance}
use Rattle.scenario_theory.specs.Refusal.{projection_exceeds, refusal_of}
use Rattle.report_theory.specs.Text.{ascii, decimal, digits_by, spaced}
use Rattle.report_theory.specs.Lines.{line_of, last_line_of}
use Rattle.enclosures_theory.specs.Output.{ended, lines_of}
use Rattle.enclosures_theory.specs.Transfers.{input_failed, output_failed}
use Rattle.enclosures_theory.proofs.OutputLaws.{lines_end, one_refused}

-- what comes after the first line
after_first : {l m : List ℕ} → l ≡ m → ended (ascii "enclosures") ++ l ≡ ended (ascii "enclosures") ++ m
after_first e = ap (λ (l : List ℕ). ended (ascii "enclosures") ++ l) e

-- "so empty input prints `enclosures` and `end 0`"
pub empty_input : lines_of [] ≡ ascii "enclosures\nend 0\n"
unfolding lines_of last_line_of decimal digits_by
empty_input = after_first (lines_end 0)

-- "For the bytes 37 01 BC 02 E8 03 02 46 00 (hexadecimal) it prints three lines: `enclosures`, `1 R 6`, `end 1`": since
-- W-201 the period of these, 0.07 s, is answered, and so it is 0.009 s, the greatest before those that are
abbrev bytes : List ℕ
bytes = 0x37 ∷ 0x01 ∷ 0xbc ∷ 0x02 ∷ 0xe8 ∷ 0x03 ∷ 0x02 ∷ 0x09 ∷ 0x00 ∷ []

read_with_6 : read_of bytes ≡ Err E.Period
unfolding read_of read_refusal map_refusal length_by scenario_in size_of numbers_of absent_written refusal_of
    lacks_distance
    projection_exceeds refusal_by_model refusal_by beyond_periods
read_with_6 = refl

pub refused_example : lines_of bytes ≡ ascii "enclosures\n1 R 6\nend 1\n"
unfolding lines_of line_of last_line_of spaced decimal digits_by
refused_example = after_first (one_refused 0 bytes E.Period (omega arith) read_with_6)

pub input_example : input_failed 12 ≡ ascii "enclosures: standard input failed after 12 bytes"
unfolding input_failed decimal digits_by
input_example = refl

pub output_example : output_failed 4_096 15_027 ≡ ascii "enclosures: standard output failed after 4096 of 15027 bytes"
unfolding output_failed decimal digits_by
output_example = refl
