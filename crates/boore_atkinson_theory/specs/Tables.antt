-- Tables 3, 4, 6, 7 and the totals of Table 8 of source document 003, with the printed digits; periods in thousandths
-- of a second, 0 for the row PGA. The row PGV, which is printed before it, is left out: "Peak velocity .. lie outside
-- it". (The transcript has lost Table 4's names and Table 8's periods.)
use Rattle.std.specs.Prelude.{List, [], ◌∷◌, ℕ, ℤ, pos, neg_ℤ}
use Rattle.toolbox_theory.specs.Lists.{lookup}
use Rattle.exact_theory.specs.Fraction.{Fraction, ◌over◌}

abbrev neg : ℕ → ℤ
neg n = neg_ℤ (pos n)

-- ---- Table 3, "Period-dependent site-amplification coefficients"

pub record SiteAmplification : Type 0 where
  pub period : ℕ
  pub blin : Fraction
  pub b1 : Fraction
  pub b2 : Fraction

-- of the printed digits: blin and b1 have three decimals, b2 two
abbrev pub site : ℕ → ℤ → ℤ → ℤ → SiteAmplification
site period blin b1 b2 = record { period = period; blin = blin over 1_000; b1 = b1 over 1_000; b2 = b2 over 100 }

-- b2 at 0.2 s "is −0.19" (document 01, 'The site term')
abbrev pub table3 : List SiteAmplification
table3 =
    --   period blin b1 b2
    site 0 (neg 360) (neg 640) (neg 14) ∷
    site 10 (neg 360) (neg 640) (neg 14) ∷
    site 20 (neg 340) (neg 630) (neg 12) ∷
    site 30 (neg 330) (neg 620) (neg 11) ∷
    site 50 (neg 290) (neg 640) (neg 11) ∷
    site 75 (neg 230) (neg 640) (neg 11) ∷
    site 100 (neg 250) (neg 600) (neg 13) ∷
    site 150 (neg 280) (neg 530) (neg 18) ∷
    site 200 (neg 310) (neg 520) (neg 19) ∷
    site 250 (neg 390) (neg 520) (neg 16) ∷
    site 300 (neg 440) (neg 520) (neg 14) ∷
    site 400 (neg 500) (neg 510) (neg 10) ∷
    site 500 (neg 600) (neg 500) (neg 6) ∷
    site 750 (neg 690) (neg 470) (pos 0) ∷
    site 1000 (neg 700) (neg 440) (pos 0) ∷
    site 1500 (neg 720) (neg 400) (pos 0) ∷
    site 2000 (neg 730) (neg 380) (pos 0) ∷
    site 3000 (neg 740) (neg 340) (pos 0) ∷
    site 4000 (neg 750) (neg 310) (pos 0) ∷
    site 5000 (neg 750) (neg 291) (pos 0) ∷
    site 7500 (neg 692) (neg 247) (pos 0) ∷
    site 10000 (neg 650) (neg 215) (pos 0) ∷
    []

-- ---- Table 4, the site-amplification coefficients that do not depend on the period

-- a1, pga_low and a2, in hundredths of g
abbrev pub a1 : ℕ
a1 = 3

abbrev pub pga_low : ℕ
pga_low = 6

abbrev pub a2 : ℕ
a2 = 9

-- V1, V2 and Vref, 180, 300 and 760 m/s, in the field's tenths
abbrev pub V1 : ℕ
V1 = 1_800

abbrev pub V2 : ℕ
V2 = 3_000

abbrev pub Vref : ℕ
Vref = 7_600

-- ---- Table 6, "Distance-scaling coefficients"

-- h in hundredths of a km
pub record DistanceScaling : Type 0 where
  pub period : ℕ
  pub c1 : Fraction
  pub c2 : Fraction
  pub c3 : Fraction
  pub h : ℕ

-- of the printed digits: c1, c2 and c3 have five decimals, h two
abbrev pub distance : ℕ → ℤ → ℤ → ℤ → ℕ → DistanceScaling
distance period c1 c2 c3 h =
    record { period = period; c1 = c1 over 100_000; c2 = c2 over 100_000; c3 = c3 over 100_000; h = h }

-- its caption and document 01, 'Boore-Atkinson on rock': "Mref 4.5, Rref 1 km"
abbrev pub Mref : Fraction
Mref = pos 45 over 10

abbrev pub Rref : Fraction
Rref = pos 1 over 1

abbrev pub table6 : List DistanceScaling
table6 =
    --       period c1 c2 c3 h
    distance 0 (neg 66050) (pos 11970) (neg 1151) 135 ∷
    distance 10 (neg 66220) (pos 12000) (neg 1151) 135 ∷
    distance 20 (neg 66600) (pos 12280) (neg 1151) 135 ∷
    distance 30 (neg 69010) (pos 12830) (neg 1151) 135 ∷
    distance 50 (neg 71700) (pos 13170) (neg 1151) 135 ∷
    distance 75 (neg 72050) (pos 12370) (neg 1151) 155 ∷
    distance 100 (neg 70810) (pos 11170) (neg 1151) 168 ∷
    distance 150 (neg 69610) (pos 9884) (neg 1113) 186 ∷
    distance 200 (neg 58300) (pos 4273) (neg 952) 198 ∷
    distance 250 (neg 57260) (pos 2977) (neg 837) 207 ∷
    distance 300 (neg 55430) (pos 1955) (neg 750) 214 ∷
    distance 400 (neg 64430) (pos 4394) (neg 626) 224 ∷
    distance 500 (neg 69140) (pos 6080) (neg 540) 232 ∷
    distance 750 (neg 74080) (pos 7518) (neg 409) 246 ∷
    distance 1000 (neg 81830) (pos 10270) (neg 334) 254 ∷
    distance 1500 (neg 83030) (pos 9793) (neg 255) 266 ∷
    distance 2000 (neg 82850) (pos 9432) (neg 217) 273 ∷
    distance 3000 (neg 78440) (pos 7282) (neg 191) 283 ∷
    distance 4000 (neg 68540) (pos 3758) (neg 191) 289 ∷
    distance 5000 (neg 50960) (neg 2391) (neg 191) 293 ∷
    distance 7500 (neg 37240) (neg 6568) (neg 191) 300 ∷
    distance 10000 (neg 9824) (neg 13800) (neg 191) 304 ∷
    []

-- ---- Table 7, "Magnitude-scaling coefficients"

-- Mh is the hinge magnitude
pub record MagnitudeScaling : Type 0 where
  pub period : ℕ
  pub e1 : Fraction
  pub e2 : Fraction
  pub e3 : Fraction
  pub e4 : Fraction
  pub e5 : Fraction
  pub e6 : Fraction
  pub e7 : Fraction
  pub Mh : Fraction

-- of the printed digits: e1 to e7 have five decimals, Mh two
abbrev pub magnitude : ℕ → ℤ → ℤ → ℤ → ℤ → ℤ → ℤ → ℤ → ℕ → MagnitudeScaling
magnitude period e1 e2 e3 e4 e5 e6 e7 Mh = record {
  period = period;
  e1 = e1 over 100_000;
  e2 = e2 over 100_000;
  e3 = e3 over 100_000;
  e4 = e4 over 100_000;
  e5 = e5 over 100_000;
  e6 = e6 over 100_000;
  e7 = e7 over 100_000;
  Mh = pos Mh over 100;
}

abbrev pub table7 : List MagnitudeScaling
table7 =
    --        period e1 e2 e3 e4 e5 e6 e7 Mh
    magnitude 0 (neg 53804) (neg 50350) (neg 75472) (neg 50970) (pos 28805) (neg 10164) (pos 0) 675 ∷
    magnitude 10 (neg 52883) (neg 49429) (neg 74551) (neg 49966) (pos 28897) (neg 10019) (pos 0) 675 ∷
    magnitude 20 (neg 52192) (neg 48508) (neg 73906) (neg 48895) (pos 25144) (neg 11006) (pos 0) 675 ∷
    magnitude 30 (neg 45285) (neg 41831) (neg 66722) (neg 42229) (pos 17976) (neg 12858) (pos 0) 675 ∷
    magnitude 50 (neg 28476) (neg 25022) (neg 48462) (neg 26092) (pos 6369) (neg 15752) (pos 0) 675 ∷
    magnitude 75 (pos 767) (pos 4912) (neg 20578) (pos 2706) (pos 1170) (neg 17051) (pos 0) 675 ∷
    magnitude 100 (pos 20109) (pos 23102) (pos 3058) (pos 22193) (pos 4697) (neg 15948) (pos 0) 675 ∷
    magnitude 150 (pos 46128) (pos 48661) (pos 30185) (pos 49328) (pos 17990) (neg 14539) (pos 0) 675 ∷
    magnitude 200 (pos 57180) (pos 59253) (pos 40860) (pos 61472) (pos 52729) (neg 12964) (pos 102) 675 ∷
    magnitude 250 (pos 51884) (pos 53496) (pos 33880) (pos 57747) (pos 60880) (neg 13843) (pos 8607) 675 ∷
    magnitude 300 (pos 43825) (pos 44516) (pos 25356) (pos 51990) (pos 64472) (neg 15694) (pos 10601) 675 ∷
    magnitude 400 (pos 39220) (pos 40602) (pos 21398) (pos 46080) (pos 78610) (neg 7843) (pos 2262) 675 ∷
    magnitude 500 (pos 18957) (pos 19878) (pos 967) (pos 26337) (pos 76837) (neg 9054) (pos 0) 675 ∷
    magnitude 750 (neg 21338) (neg 19496) (neg 49176) (neg 10813) (pos 75179) (neg 14053) (pos 10302) 675 ∷
    magnitude 1000 (neg 46896) (neg 43443) (neg 78465) (neg 39330) (pos 67880) (neg 18257) (pos 5393) 675 ∷
    magnitude 1500 (neg 86271) (neg 79593) (neg 120902) (neg 88085) (pos 70689) (neg 25950) (pos 19082) 675 ∷
    magnitude 2000 (neg 122652) (neg 115514) (neg 157697) (neg 127669) (pos 77989) (neg 29657) (pos 29888) 675 ∷
    magnitude 3000 (neg 182979) (neg 174690) (neg 222584) (neg 191814) (pos 77966) (neg 45384) (pos 67466) 675 ∷
    magnitude 4000 (neg 224656) (neg 215906) (neg 258228) (neg 238168) (pos 124961) (neg 35874) (pos 79508) 675 ∷
    magnitude 5000 (neg 128408) (neg 121270) (neg 150904) (neg 141093) (pos 14271) (neg 39006) (pos 0) 850 ∷
    magnitude 7500 (neg 143145) (neg 131632) (neg 181022) (neg 159217) (pos 52407) (neg 37578) (pos 0) 850 ∷
    magnitude 10000 (neg 215446) (neg 216137) (neg 253323) (neg 214635) (pos 40387) (neg 48492) (pos 0) 850 ∷
    []

-- ---- Table 8, "Aleatory uncertainties": the totals σTU, "fault type unspecified", and σTM, "specified"

pub record Total : Type 0 where
  pub period : ℕ
  pub σTU : Fraction
  pub σTM : Fraction

-- of the printed digits: both have three decimals
abbrev pub total : ℕ → ℕ → ℕ → Total
total period σTU σTM = record { period = period; σTU = pos σTU over 1_000; σTM = pos σTM over 1_000 }

abbrev pub table8 : List Total
table8 =
    --    period σTU σTM
    total 0 566 564 ∷
    total 10 569 566 ∷
    total 20 569 566 ∷
    total 30 578 576 ∷
    total 50 589 589 ∷
    total 75 606 606 ∷
    total 100 608 608 ∷
    total 150 592 594 ∷
    total 200 596 596 ∷
    total 250 592 592 ∷
    total 300 608 608 ∷
    total 400 603 603 ∷
    total 500 615 615 ∷
    total 750 649 645 ∷
    total 1000 654 647 ∷
    total 1500 684 679 ∷
    total 2000 702 700 ∷
    total 3000 700 695 ∷
    total 4000 702 698 ∷
    total 5000 730 744 ∷
    total 7500 781 787 ∷
    total 10000 735 801 ∷
    []

-- ---- the rows that are printed with a period; "Period 0 uses the row PGA" ('Boore-Atkinson on rock')

pub record Row : Type 0 where
  pub site : SiteAmplification
  pub distance : DistanceScaling
  pub magnitude : MagnitudeScaling

-- where no row is printed with a period; no table has a row for 0.001 s
abbrev pub no_row : Row
no_row = record {
  site = site 1 (pos 0) (pos 0) (pos 0);
  distance = distance 1 (pos 0) (pos 0) (pos 0) 0;
  magnitude = magnitude 1 (pos 0) (pos 0) (pos 0) (pos 0) (pos 0) (pos 0) (pos 0) 0;
}

-- of Tables 3, 6 and 7
unfoldable pub row_for : ℕ → Row
row_for period = record {
  site = lookup (λ r. r.period) no_row.site table3 period;
  distance = lookup (λ r. r.period) no_row.distance table6 period;
  magnitude = lookup (λ r. r.period) no_row.magnitude table7 period;
}

-- of Table 8
abbrev pub no_total : Total
no_total = total 1 0 0

unfoldable pub total_for : ℕ → Total
total_for period = lookup (λ r. r.period) no_total table8 period
