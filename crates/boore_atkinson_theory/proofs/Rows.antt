-- Signs, sizes and decimals of the coefficients: one test over all rows of each table. And the rows for a period are
-- those in the place that the code looks up.
use mathlib.Core.Path.{◌≡◌, refl}
use mathlib.Core.Bool.{true}
use mathlib.Core.List.{List, [], ◌∷◌, map}
use Prim.Native.Nat.{ℕ, ◌+◌, ◌*◌, ◌<◌}
use native.Mathlib.Omega.{arith}
use lib.ListN.{get_or}
use Rattle.toolbox_theory.specs.Whole.{up, down}
use Rattle.toolbox_theory.specs.Lists.{among, lookup}
use Rattle.toolbox_theory.proofs.Tests.{equal, row_within}
use Rattle.toolbox_theory.proofs.ListLaws.{lookup_at, lookup_key}
use Rattle.exact_theory.specs.Fraction.{◌over◌}
use Rattle.scenario_theory.specs.Refusal.{boore_atkinson}
use Rattle.scenario_theory.specs.Rows.{boore_atkinson_row, row_count}
use Rattle.boore_atkinson_theory.specs.declared.SiteRow.{SiteRow}
use Rattle.boore_atkinson_theory.specs.declared.DistanceRow.{DistanceRow}
use Rattle.boore_atkinson_theory.specs.declared.MagnitudeRow.{MagnitudeRow}
use Rattle.boore_atkinson_theory.specs.Tables.{SiteAmplification, DistanceScaling, MagnitudeScaling, Total}
use Rattle.boore_atkinson_theory.specs.Tables.{table3, table6, table7, table8, no_total, no_row, row_for, total_for}
use Rattle.boore_atkinson_theory.specs.Rows.{row_at, total_at, pga, site_parts, distance_parts, magnitude_parts}
use Rattle.boore_atkinson_theory.specs.Rows.{SiteSigns, DistanceSigns, MagnitudeSigns, TotalSigns}

-- the limits, each as two numbers in order

abbrev site_limits : SiteAmplification → List (ℕ × ℕ)
site_limits r =
    let p : SiteRow = site_parts r in
    (p.0, 750) ∷ (p.1, 640) ∷ (p.2, 19) ∷ (10 * p.2, p.1) ∷ (p.1, 530 + 10 * p.2) ∷
    (up r.blin.num, 0) ∷ (up r.b1.num, 0) ∷ (up r.b2.num, 0) ∷
    equal ((r.blin.den, 1_000) ∷ (r.b1.den, 1_000) ∷ (r.b2.den, 100) ∷ [])

abbrev distance_limits : DistanceScaling → List (ℕ × ℕ)
distance_limits r =
    let p : DistanceRow = distance_parts r in
    (p.1 * 350, 100 * p.0) ∷ (100 * p.0 + p.2 * 350, 8_400_000) ∷ (p.3, 1_151) ∷ (100, p.4) ∷ (p.4, 400) ∷
    (up r.c1.num, 0) ∷ (up r.c3.num, 0) ∷
    equal ((r.c1.den, 100_000) ∷ (r.c2.den, 100_000) ∷ (r.c3.den, 100_000) ∷ [])

abbrev magnitude_limits : MagnitudeScaling → List (ℕ × ℕ)
magnitude_limits r =
    let p : MagnitudeRow = magnitude_parts r in
    (p.0, 300_000) ∷ (p.1, 300_000) ∷ (p.2, 300_000) ∷ (p.3, 300_000) ∷ (p.4, 300_000) ∷ (p.5, 300_000) ∷
    (p.6, 300_000) ∷ (p.7, 300_000) ∷ (p.8, 130_000) ∷ (p.9, 50_000) ∷ (p.10, 80_000) ∷ (p.11, 850) ∷
    (down r.e5.num, 0) ∷ (up r.e6.num, 0) ∷ (down r.e7.num, 0) ∷ (down r.Mh.num, 0) ∷
    equal ((r.e1.den, 100_000) ∷ (r.e2.den, 100_000) ∷ (r.e3.den, 100_000) ∷ (r.e4.den, 100_000) ∷
    (r.e5.den, 100_000) ∷ (r.e6.den, 100_000) ∷ (r.e7.den, 100_000) ∷ (r.Mh.den, 100) ∷ [])

abbrev total_limits : Total → List (ℕ × ℕ)
total_limits r =
    (up r.σTU.num, 1_000) ∷ (up r.σTM.num, 1_000) ∷ (down r.σTU.num, 0) ∷ (down r.σTM.num, 0) ∷
    equal ((r.σTU.den, 1_000) ∷ (r.σTM.den, 1_000) ∷ [])

-- ---- one test over each table

pub site_limits_lem : (k : ℕ) → k < row_count → SiteSigns (row_at k).site
unfolding row_at up down ◌over◌
site_limits_lem k h = omega (arith, row_within site_limits no_row.site table3 tt k h)

pub distance_limits_lem : (k : ℕ) → k < row_count → DistanceSigns (row_at k).distance
unfolding row_at up down ◌over◌
distance_limits_lem k h = omega (arith, row_within distance_limits no_row.distance table6 tt k h)

pub magnitude_limits_lem : (k : ℕ) → k < row_count → MagnitudeSigns (row_at k).magnitude
unfolding row_at up down ◌over◌
magnitude_limits_lem k h = omega (arith, row_within magnitude_limits no_row.magnitude table7 tt k h)

pub total_limits_lem : (k : ℕ) → k < row_count → TotalSigns (total_at k)
unfolding total_at up down ◌over◌
total_limits_lem k h = omega (arith, row_within total_limits no_total table8 tt k h)

-- ---- the rows for a period are those in the place that the code looks up

-- the periods that the tables print, in their order
abbrev printed : List ℕ
printed = 0 ∷ boore_atkinson.periods

module _ {A : Type 0} (key : A → ℕ) (none : A) (rows : List A) (same : map key rows ≡ printed) where
  in_place : (period : ℕ) → lookup key none rows period ≡ get_or rows (boore_atkinson_row period) none
  unfolding boore_atkinson_row
  in_place period = rw (lookup_at key none rows period, same) refl

pub row_at_lem : (period : ℕ) → row_for period ≡ row_at (boore_atkinson_row period)
unfolding row_for row_at
row_at_lem period =
    rw (in_place (λ r. r.period) no_row.site table3 refl period)
    (rw (in_place (λ r. r.period) no_row.distance table6 refl period)
    (rw (in_place (λ r. r.period) no_row.magnitude table7 refl period)))

pub total_at_lem : (period : ℕ) → total_for period ≡ total_at (boore_atkinson_row period)
unfolding total_for total_at
total_at_lem period = in_place (λ r. r.period) no_total table8 refl period

pub pga_at : row_for 0 ≡ pga
unfolding boore_atkinson_row
pga_at = row_at_lem 0

-- and so the period that is printed with them is the period asked for

pub record Printed (period : ℕ) : Type 0 where
  pub site : (row_for period).site.period ≡ period
  pub distance : (row_for period).distance.period ≡ period
  pub magnitude : (row_for period).magnitude.period ≡ period
  pub total : (total_for period).period ≡ period

pub row_printed : (period : ℕ) → among printed period ≡ true → Printed period
unfolding row_for total_for
row_printed T e = record {
  site = lookup_key (λ r. r.period) no_row.site table3 T e;
  distance = lookup_key (λ r. r.period) no_row.distance table6 T e;
  magnitude = lookup_key (λ r. r.period) no_row.magnitude table7 T e;
  total = lookup_key (λ r. r.period) no_total table8 T e;
}
