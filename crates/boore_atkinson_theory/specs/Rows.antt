-- The rows of the tables by number, for the code alone; a row by the code's unsigned parts, and the signs, sizes and
-- decimals that the evaluation rests on.
use Rattle.std.specs.Prelude.{◌≡◌, ℕ, ◌+◌, ◌*◌, ◌≤◌, get_or}
use Rattle.toolbox_theory.specs.Whole.{up, down}
use Rattle.boore_atkinson_theory.specs.declared.SiteRow.{SiteRow}
use Rattle.boore_atkinson_theory.specs.declared.DistanceRow.{DistanceRow}
use Rattle.boore_atkinson_theory.specs.declared.MagnitudeRow.{MagnitudeRow}
use Rattle.boore_atkinson_theory.specs.declared.TotalRow.{TotalRow}
use Rattle.boore_atkinson_theory.specs.Tables.{SiteAmplification, DistanceScaling, MagnitudeScaling, Total, Row}
use Rattle.boore_atkinson_theory.specs.Tables.{table3, table6, table7, table8, no_total, no_row}

-- row k of Tables 3, 6 and 7, counted from 0 at PGA
unfoldable pub row_at : ℕ → Row
row_at k = record {
  site = get_or table3 k no_row.site;
  distance = get_or table6 k no_row.distance;
  magnitude = get_or table7 k no_row.magnitude;
}

-- row k of Table 8
unfoldable pub total_at : ℕ → Total
total_at k = get_or table8 k no_total

-- "the row PGA"
abbrev pub pga : Row
pga = row_at 0

abbrev pub site_parts : SiteAmplification → SiteRow
site_parts r = record { 0 = down r.blin.num; 1 = down r.b1.num; 2 = down r.b2.num }

abbrev pub distance_parts : DistanceScaling → DistanceRow
distance_parts r = record {
  0 = down r.c1.num;
  1 = up r.c2.num;
  2 = down r.c2.num;
  3 = down r.c3.num;
  4 = r.h;
}

abbrev pub magnitude_parts : MagnitudeScaling → MagnitudeRow
magnitude_parts r = record {
  0 = up r.e1.num;
  1 = down r.e1.num;
  2 = up r.e2.num;
  3 = down r.e2.num;
  4 = up r.e3.num;
  5 = down r.e3.num;
  6 = up r.e4.num;
  7 = down r.e4.num;
  8 = up r.e5.num;
  9 = down r.e6.num;
  10 = up r.e7.num;
  11 = up r.Mh.num;
}

abbrev pub total_parts : Total → TotalRow
total_parts r = record { 0 = up r.σTU.num; 1 = up r.σTM.num }

-- b1 − b2 is not above zero, and from −0.53 on
pub record SiteLimits (r : SiteRow) : Type 0 where
  pub blin : r.0 ≤ 750
  pub b1 : r.1 ≤ 640
  pub b2 : r.2 ≤ 19
  pub order : 10 * r.2 ≤ r.1
  pub apart : r.1 ≤ 530 + 10 * r.2

-- c1 + c2 (M − Mref) is not above zero for M up to 8, and from −0.84 on
pub record DistanceLimits (r : DistanceRow) : Type 0 where
  pub spread_least : r.1 * 350 ≤ 100 * r.0
  pub spread_most_lem : 100 * r.0 + r.2 * 350 ≤ 8_400_000
  pub c3 : r.3 ≤ 1_151
  pub shallow : 100 ≤ r.4
  pub deep : r.4 ≤ 400

pub record MagnitudeLimits (r : MagnitudeRow) : Type 0 where
  pub e1_gain : r.0 ≤ 300_000
  pub e1_loss : r.1 ≤ 300_000
  pub e2_gain : r.2 ≤ 300_000
  pub e2_loss : r.3 ≤ 300_000
  pub e3_gain : r.4 ≤ 300_000
  pub e3_loss : r.5 ≤ 300_000
  pub e4_gain : r.6 ≤ 300_000
  pub e4_loss : r.7 ≤ 300_000
  pub e5 : r.8 ≤ 130_000
  pub e6 : r.9 ≤ 50_000
  pub e7 : r.10 ≤ 80_000
  pub hinge : r.11 ≤ 850

-- and the signs and decimals that the parts rest on
pub record SiteSigns (r : SiteAmplification) : Type 0 where
  pub sizes : SiteLimits (site_parts r)
  pub blin_below : up r.blin.num ≤ 0
  pub b1_below : up r.b1.num ≤ 0
  pub b2_below : up r.b2.num ≤ 0
  pub blin_decimals : r.blin.den ≡ 1_000
  pub b1_decimals : r.b1.den ≡ 1_000
  pub b2_decimals : r.b2.den ≡ 100

pub record DistanceSigns (r : DistanceScaling) : Type 0 where
  pub sizes : DistanceLimits (distance_parts r)
  pub c1_below : up r.c1.num ≤ 0
  pub c3_below : up r.c3.num ≤ 0
  pub c1_decimals : r.c1.den ≡ 100_000
  pub c2_decimals : r.c2.den ≡ 100_000
  pub c3_decimals : r.c3.den ≡ 100_000

pub record MagnitudeSigns (r : MagnitudeScaling) : Type 0 where
  pub sizes : MagnitudeLimits (magnitude_parts r)
  pub e5_above : down r.e5.num ≤ 0
  pub e6_below : up r.e6.num ≤ 0
  pub e7_above : down r.e7.num ≤ 0
  pub Mh_above : down r.Mh.num ≤ 0
  pub e1_decimals : r.e1.den ≡ 100_000
  pub e2_decimals : r.e2.den ≡ 100_000
  pub e3_decimals : r.e3.den ≡ 100_000
  pub e4_decimals : r.e4.den ≡ 100_000
  pub e5_decimals : r.e5.den ≡ 100_000
  pub e6_decimals : r.e6.den ≡ 100_000
  pub e7_decimals : r.e7.den ≡ 100_000
  pub Mh_decimals : r.Mh.den ≡ 100

pub record TotalSigns (r : Total) : Type 0 where
  pub unspecified : up r.σTU.num ≤ 1_000
  pub specified : up r.σTM.num ≤ 1_000
  pub unspecified_above : down r.σTU.num ≤ 0
  pub specified_above : down r.σTM.num ≤ 0
  pub unspecified_decimals : r.σTU.den ≡ 1_000
  pub specified_decimals : r.σTM.den ≡ 1_000
