-- Tables 2 and 3 of source document 000, with the printed digits. (Table 2's period column is document 01's list.)
use Rattle.std.specs.Prelude.{Bool, cond, List, [], ◌∷◌, ℕ, ltb, ℤ, pos, neg_ℤ}
use Rattle.toolbox_theory.specs.Lists.{lookup}
use Rattle.exact_theory.specs.Fraction.{Fraction, ◌over◌}
use Rattle.scenario_theory.specs.Neighbours.{idriss_printed}

abbrev neg : ℕ → ℤ
neg n = neg_ℤ (pos n)

-- a row, in the paper's order; the period in thousandths of a second
pub record Row : Type 0 where
  pub period : ℕ
  pub α1 : Fraction
  pub α2 : Fraction
  pub α3 : Fraction
  pub β1 : Fraction
  pub β2 : Fraction
  pub ξ : Fraction
  pub γ : Fraction
  pub φ : Fraction

-- the row of the printed digits: ξ has three decimals, φ two, the others four
abbrev row : ℕ → ℤ → ℤ → ℤ → ℤ → ℤ → ℤ → ℤ → ℤ → Row
row period α1 α2 α3 β1 β2 ξ γ φ = record {
  period = period;
  α1 = α1 over 10_000;
  α2 = α2 over 10_000;
  α3 = α3 over 10_000;
  β1 = β1 over 10_000;
  β2 = β2 over 10_000;
  ξ = ξ over 1_000;
  γ = γ over 10_000;
  φ = φ over 100;
}

-- Table 2: M up to and including 6.75
abbrev pub table2 : List Row
table2 =
    --  period α1 α2 α3 β1 β2 ξ γ φ
    row 10 (pos 70887) (pos 2058) (pos 589) (pos 29935) (neg 2287) (neg 854) (neg 27) (pos 8) ∷
    row 20 (pos 71157) (pos 2058) (pos 589) (pos 29935) (neg 2287) (neg 854) (neg 27) (pos 8) ∷
    row 30 (pos 72087) (pos 2058) (pos 589) (pos 29935) (neg 2287) (neg 854) (neg 27) (pos 8) ∷
    row 40 (pos 73287) (pos 2058) (pos 589) (pos 29935) (neg 2287) (neg 854) (neg 27) (pos 8) ∷
    row 50 (pos 62638) (pos 625) (pos 417) (pos 28664) (neg 2418) (neg 631) (neg 61) (pos 8) ∷
    row 75 (pos 59051) (pos 1128) (pos 527) (pos 29406) (neg 2513) (neg 591) (neg 56) (pos 8) ∷
    row 100 (pos 75791) (pos 848) (pos 442) (pos 30190) (neg 2516) (neg 757) (neg 42) (pos 8) ∷
    row 150 (pos 80190) (pos 1713) (pos 329) (pos 27871) (neg 2236) (neg 911) (neg 46) (pos 8) ∷
    row 200 (pos 92812) (pos 1041) (pos 188) (pos 28611) (neg 2229) (neg 998) (neg 30) (pos 8) ∷
    row 250 (pos 95804) (pos 875) (pos 95) (pos 28289) (neg 2200) (neg 1042) (neg 28) (pos 8) ∷
    row 300 (pos 98912) (pos 3) (neg 39) (pos 28423) (neg 2284) (neg 1030) (neg 29) (pos 8) ∷
    row 400 (pos 95342) (pos 27) (neg 133) (pos 28300) (neg 2318) (neg 1019) (neg 28) (pos 8) ∷
    row 500 (pos 92142) (pos 399) (neg 224) (pos 28560) (neg 2337) (neg 1023) (neg 21) (pos 8) ∷
    row 750 (pos 83517) (pos 689) (neg 267) (pos 27544) (neg 2392) (neg 1056) (neg 29) (pos 8) ∷
    row 1000 (pos 70453) (pos 1600) (neg 198) (pos 27339) (neg 2398) (neg 1009) (neg 32) (pos 6) ∷
    row 1500 (pos 51307) (pos 2429) (neg 367) (pos 26800) (neg 2417) (neg 898) (neg 33) (pos 4) ∷
    row 2000 (pos 33610) (pos 3966) (neg 291) (pos 26837) (neg 2450) (neg 851) (neg 32) (pos 2) ∷
    row 3000 (pos 1784) (pos 7560) (neg 214) (pos 26907) (neg 2389) (neg 761) (neg 31) (pos 2) ∷
    row 4000 (neg 24301) (pos 9283) (neg 240) (pos 25782) (neg 2514) (neg 675) (neg 51) (pos 0) ∷
    row 5000 (neg 43570) (pos 11209) (neg 202) (pos 25468) (neg 2541) (neg 629) (neg 59) (pos 0) ∷
    row 7500 (neg 78275) (pos 14016) (neg 219) (pos 24478) (neg 2593) (neg 531) (neg 57) (pos 0) ∷
    row 10000 (neg 92857) (pos 15574) (neg 35) (pos 23922) (neg 2586) (neg 586) (neg 61) (pos 0) ∷
    []

-- Table 3: M above 6.75
abbrev pub table3 : List Row
table3 =
    --  period α1 α2 α3 β1 β2 ξ γ φ
    row 10 (pos 90138) (neg 794) (pos 589) (pos 29935) (neg 2287) (neg 854) (neg 27) (pos 8) ∷
    row 20 (pos 90408) (neg 794) (pos 589) (pos 29935) (neg 2287) (neg 854) (neg 27) (pos 8) ∷
    row 30 (pos 91338) (neg 794) (pos 589) (pos 29935) (neg 2287) (neg 854) (neg 27) (pos 8) ∷
    row 40 (pos 92538) (neg 794) (pos 589) (pos 29935) (neg 2287) (neg 854) (neg 27) (pos 8) ∷
    row 50 (pos 79837) (neg 1923) (pos 417) (pos 27995) (neg 2319) (neg 631) (neg 61) (pos 8) ∷
    row 75 (pos 77560) (neg 1614) (pos 527) (pos 28143) (neg 2326) (neg 591) (neg 56) (pos 8) ∷
    row 100 (pos 94252) (neg 1887) (pos 442) (pos 28131) (neg 2211) (neg 757) (neg 42) (pos 8) ∷
    row 150 (pos 96242) (neg 665) (pos 329) (pos 24091) (neg 1676) (neg 911) (neg 46) (pos 8) ∷
    row 200 (pos 111300) (neg 1698) (pos 188) (pos 24938) (neg 1685) (neg 998) (neg 30) (pos 8) ∷
    row 250 (pos 113629) (neg 1766) (pos 95) (pos 23773) (neg 1531) (neg 1042) (neg 28) (pos 8) ∷
    row 300 (pos 117818) (neg 2798) (neg 39) (pos 23772) (neg 1595) (neg 1030) (neg 29) (pos 8) ∷
    row 400 (pos 116097) (neg 3048) (neg 133) (pos 23413) (neg 1594) (neg 1019) (neg 28) (pos 8) ∷
    row 500 (pos 114484) (neg 2911) (neg 224) (pos 23477) (neg 1584) (neg 1023) (neg 21) (pos 8) ∷
    row 750 (pos 109065) (neg 3097) (neg 267) (pos 22042) (neg 1577) (neg 1056) (neg 29) (pos 8) ∷
    row 1000 (pos 98565) (neg 2565) (neg 198) (pos 21493) (neg 1532) (neg 1009) (neg 32) (pos 6) ∷
    row 1500 (pos 83363) (neg 2320) (neg 367) (pos 20408) (neg 1470) (neg 898) (neg 33) (pos 4) ∷
    row 2000 (pos 68656) (neg 1226) (neg 291) (pos 20013) (neg 1439) (neg 851) (neg 32) (pos 2) ∷
    row 3000 (pos 41178) (pos 1724) (neg 214) (pos 19408) (neg 1278) (neg 761) (neg 31) (pos 2) ∷
    row 4000 (pos 18102) (pos 3001) (neg 240) (pos 17763) (neg 1326) (neg 675) (neg 51) (pos 0) ∷
    row 5000 (pos 977) (pos 4609) (neg 202) (pos 17030) (neg 1291) (neg 629) (neg 59) (pos 0) ∷
    row 7500 (neg 30563) (pos 6948) (neg 219) (pos 15212) (neg 1220) (neg 531) (neg 57) (pos 0) ∷
    row 10000 (neg 44387) (pos 8393) (neg 35) (pos 14195) (neg 1145) (neg 586) (neg 61) (pos 0) ∷
    []

-- where no row is printed with a period; no table has a row for 0.001 s
abbrev pub no_row : Row
no_row = row 1 (pos 0) (pos 0) (pos 0) (pos 0) (pos 0) (pos 0) (pos 0) (pos 0)

-- "Table 2 holds up to and including M 6.75, Table 3 above it": the magnitude in hundredths
unfoldable pub takes_table3 : ℕ → Bool
takes_table3 magnitude = ltb 675 magnitude

-- the table of a magnitude
abbrev pub table_for : ℕ → List Row
table_for magnitude = cond (takes_table3 magnitude) table3 table2

-- the row that a table prints with a period: "Period 0 uses the row 0.01"
unfoldable pub row_in : List Row → ℕ → Row
row_in table period = lookup (λ r. r.period) no_row table (idriss_printed period)

-- the row that the table of a magnitude prints with a period
abbrev pub row_for : ℕ → ℕ → Row
row_for magnitude period = row_in (table_for magnitude) period
