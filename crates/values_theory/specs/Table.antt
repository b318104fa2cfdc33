-- The values that document 01, 'Values to try', marks P: one table, and what it is that a row of it holds.
use Rattle.std.specs.Prelude.{◌≡◌, List, [], ◌∷◌, ℕ, ◌^◌, ◌≤◌, ◌<◌, ℤ, pos, neg_ℤ, ◌+ℤ◌, length, get_or}
use Rattle.std.specs.Prelude.{Option, Some, None}
use Rattle.exact_theory.specs.Fraction.{Fraction, ◌over◌, zero_q, ◌≤q◌, ◌<q◌, ◌≈q◌}
use Rattle.exact_theory.specs.Pair.{Pair}
use Rattle.exact_theory.specs.Formula.{Formula, ln, root, eval, Defined}
use Rattle.record_theory.specs.Outcome.{reading_number, reading_values, read_of}
use Rattle.idriss_theory.specs.Tables as idriss
use Rattle.idriss_theory.specs.Median.{alpha_part, beta_factor}
use Rattle.boore_atkinson_theory.specs.Tables as boore_atkinson
use Rattle.boore_atkinson_theory.specs.SiteTerm.{bnl}

-- a row
pub data Check : Type 0 where
  -- pairs: the pair of a formula at fineness n has these two ends
  pair_at : ℕ → Formula → Fraction → Fraction → Check
  -- long pairs: the two ends in 10^-60, rounded down, are these; that tells a number, and is no rounding of an answer
  cut_at : ℕ → Formula → ℤ → ℤ → Check
  -- and at every fineness both ends of the pair have this value
  at_every : Formula → Fraction → Check
  -- fractions: what is worked out has this value
  fraction : Fraction → Fraction → Check
  -- records: bytes are read as these fields, in the record's order, none of a distance that is absent, and this length
  reads : List ℕ → List (Option ℕ) → Check

-- P has the ends x and y
pub record HasEnds (P : Pair) (x y : Fraction) : Type 0 where
  pub low : P.low ≈q x
  pub high : P.high ≈q y

-- x in 10^-60, rounded down, is z
pub record CutTo (x : Fraction) (z : ℤ) : Type 0 where
  pub from : z over (10 ^ 60) ≤q x
  pub below : x <q (z +ℤ pos 1) over (10 ^ 60)

-- what a row says: of a formula's pair also that it is worked out with numbers that are defined
unfoldable pub Holds : Check → Type 0
Holds (pair_at n e x y) = (1 ≤ n) × Defined n e × HasEnds (eval n e) x y
Holds (cut_at n e x y) = (1 ≤ n) × Defined n e × CutTo (eval n e).low x × CutTo (eval n e).high y
Holds (at_every e x) = (n : ℕ) → 1 ≤ n → Defined n e × HasEnds (eval n e) x x
Holds (fraction x y) = x ≈q y
Holds (reads s xs) = (reading_number (read_of s) ≡ 0) × (reading_values (read_of s) ≡ xs)

abbrev pub neg : ℕ → ℤ
neg n = neg_ℤ (pos n)

-- the rows, in document 01's order
abbrev pub values : List Check
values =
    -- "ln 3 at n = 1 has 5/6 and 3/2; ln 2 at n = 2 has 7/12 and 5/6; ln(7/7) has 0 and 0"
    pair_at 1 (ln 3 1) (pos 5 over 6) (pos 3 over 2) ∷
    pair_at 2 (ln 2 1) (pos 7 over 12) (pos 5 over 6) ∷
    at_every (ln 7 7) (pos 0 over 1) ∷
    -- "the root of 18225 at n = 1 has 135 and 136"
    pair_at 1 (root 18_225) (pos 135 over 1) (pos 136 over 1) ∷
    -- "Idriss 0.01 s, M 7.00: α part 8.590525, β factor 1.3926; M 6.75: 8.65823125 and 1.449775"
    fraction (alpha_part (idriss.row_for 700 10) (pos 700 over 100)) (pos 8_590_525 over 1_000_000) ∷
    fraction (beta_factor (idriss.row_for 700 10) (pos 700 over 100)) (pos 13_926 over 10_000) ∷
    fraction (alpha_part (idriss.row_for 675 10) (pos 675 over 100)) (pos 865_823_125 over 100_000_000) ∷
    fraction (beta_factor (idriss.row_for 675 10) (pos 675 over 100)) (pos 1_449_775 over 1_000_000) ∷
    -- "bnl at 0.2 s: −0.52 at 180 m/s, −0.19 at 300, 0 at 760"
    at_every (bnl (boore_atkinson.row_for 200).site 1_800) (neg 52 over 100) ∷
    at_every (bnl (boore_atkinson.row_for 200).site 3_000) (neg 19 over 100) ∷
    at_every (bnl (boore_atkinson.row_for 200).site 7_600) (pos 0 over 1) ∷
    -- "bytes 37 01 BC 02 E8 03 02 4B 00 are Idriss, M 7.00, 10 km, 760 m/s, code 2, 0.075 s"
    reads (0x37 ∷ 0x01 ∷ 0xBC ∷ 0x02 ∷ 0xE8 ∷ 0x03 ∷ 0x02 ∷ 0x4B ∷ 0x00 ∷ [])
    (Some 1 ∷ Some 700 ∷ Some 1_000 ∷ Some 7_600 ∷ Some 2 ∷ Some 75 ∷ None ∷ Some 9 ∷ []) ∷
    []

-- the shared statement: every row holds
unfoldable pub AllHold : List Check → Type 0
AllHold rows = (k : ℕ) → k < length rows → Holds (get_or rows k (fraction zero_q zero_q))
