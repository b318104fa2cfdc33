-- What the code puts together, by the rows of the place that the checks have looked up, is what is computed
-- (specs/Evaluation).
use mathlib.Core.Path.{◌≡◌, refl}
use Prim.Native.Nat.{ℕ, ◌+◌, ◌-◌}
use native.Mathlib.Omega.{arith}
use borrow.Author.Tests.{lt-ltb}
use Rattle.std.specs.Prelude.{ℤ}
use Rattle.interval_theory.specs.Signed.{Moderate, ends_of}
use Rattle.interval_theory.specs.declared.SignedPair.{SignedPair}
use Rattle.interval_theory.proofs.SignedBounds.{moderate}
use Rattle.interpolation_theory.specs.declared.TwoRows.{TwoRows}
use Rattle.interpolation_theory.specs.Evaluation.{two_rows_of, interpolated_of, InterpolationDomain}
use Rattle.scenario_theory.specs.declared.Scenario.{Scenario}
use Rattle.scenario_theory.specs.declared.Place.TheVariants as P
use Rattle.scenario_theory.specs.declared.Basis.{Basis}
use Rattle.scenario_theory.specs.declared.Basis.TheVariants as B
use Rattle.scenario_theory.specs.Refusal.{idriss, boore_atkinson}
use Rattle.scenario_theory.specs.Neighbours.{neighbour_below, neighbour_above}
use Rattle.scenario_theory.specs.Rows.{idriss_row, boore_atkinson_row}
use Rattle.scenario_theory.specs.Accepted.{Placed, BasisIn}
use Rattle.scenario_theory.proofs.RowLaws.{idriss_row_lem, boore_atkinson_row_lem}
use Rattle.idriss_theory.specs.Tables.{takes_table3, table_for}
use Rattle.idriss_theory.specs.Evaluation.{median_of as idriss_median_of, median_between_of as idriss_between_of}
use Rattle.idriss_theory.proofs.Rows.{row_at_lem as idriss_row_at_lem}
use Rattle.idriss_theory.proofs.Accepted.{median_domain as idriss_median_domain}
use Rattle.idriss_theory.proofs.Laws.{median_pair_of_sized as idriss_sized}
use Rattle.idriss_theory.proofs.Between.{between_takes as idriss_takes}
use Rattle.boore_atkinson_theory.specs.Rows.{total_at}
use Rattle.boore_atkinson_theory.specs.Evaluation.{median_of as boore_atkinson_median_of, sigma_pair_of, sigma_of}
use Rattle.boore_atkinson_theory.specs.Evaluation.{median_between_of as boore_atkinson_between_of, sigma_between_of}
use Rattle.boore_atkinson_theory.proofs.Rows.{row_at_lem, total_at_lem}
use Rattle.boore_atkinson_theory.proofs.Accepted.{median_domain as boore_atkinson_median_domain}
use Rattle.boore_atkinson_theory.proofs.Laws.{median_pair_of_sized as boore_atkinson_sized}
use Rattle.boore_atkinson_theory.proofs.Between.{between_takes as boore_atkinson_takes, sigma_takes}
use Rattle.engine_theory.specs.declared.Enclosure.{Enclosure}
use Rattle.engine_theory.specs.Steps.{enclosure_on, step_around, idriss_rows_of, boore_atkinson_rows_of}
use Rattle.engine_theory.specs.Evaluation.{idriss_median_ends, boore_atkinson_enclosure_of, enclosure_of}
use Rattle.engine_theory.proofs.RowLaws.{idriss_tabled, boore_atkinson_tabled, placed_at_row}
use Rattle.engine_theory.proofs.RowLaws.{placed_on_step, not_first}

-- by the basis of a scenario: the distance that the other model reads has no part in it
pub on_basis : (s : Scenario) (b : Basis) → BasisIn s b →
    enclosure_on s.magnitude s.velocity s.mechanism s.period b ≡ enclosure_of s
unfolding enclosure_of
on_basis s (B.Idriss d p) (model, reads) = rw (model, reads) refl
on_basis s (B.BooreAtkinson d p) (model, reads) = rw (model, reads) refl

-- the rows k and k + 1
both_rows : (k : ℕ) (by_row : ℕ → SignedPair) →
    two_rows_of k (k + 1) by_row ≡ record { lower = by_row k; upper = by_row (k + 1) }
unfolding two_rows_of
both_rows k by_row =
    let here : k + 1 - 1 ≡ k = omega arith in
    rw (lt-ltb k (k + 1) (omega arith), here) refl

module _ {M R Vs mechanism T k : ℕ} where
  -- ---- Idriss

  module _ (t : Placed idriss idriss_row M R Vs mechanism T (P.Row k)) where
    pub idriss_moderate : Moderate (idriss_rows_of M R Vs mechanism k k).upper
    unfolding two_rows_of
    idriss_moderate =
        let r = placed_at_row t in
        let d = idriss_median_domain {k = k} (rw r.1 (idriss_row_lem _ r.0)) t.within in
        moderate (idriss_sized (takes_table3 M) mechanism d) (omega arith)

    pub idriss_at_row :
        ends_of (idriss_rows_of M R Vs mechanism k k).upper ≡ idriss_median_ends (table_for M) M R Vs mechanism T
    unfolding idriss_median_of two_rows_of
    idriss_at_row =
        let r = placed_at_row t in
        rw (r.0, r.1, idriss_row_at_lem (takes_table3 M) T) refl

  module _ (t : Placed idriss idriss_row M R Vs mechanism T (P.Between k)) where
    abbrev rows : TwoRows
    rows = idriss_rows_of M R Vs mechanism k (k + 1)

    pub idriss_interpolates :
        let step = step_around idriss T in
        InterpolationDomain rows.lower rows.upper step.part step.whole
    idriss_interpolates =
        let r = placed_on_step idriss_tabled t in
        let d = idriss_median_domain r.on_step.last t.within in
        rw (r.row_is, both_rows) (idriss_takes (takes_table3 M) mechanism d r.on_step.step)

    pub idriss_between_rows :
        let step = step_around idriss T in
        interpolated_of rows.lower rows.upper step.part step.whole ≡
        idriss_median_ends (table_for M) M R Vs mechanism T
    unfolding idriss_between_of
    idriss_between_rows =
        let r = placed_on_step idriss_tabled t in
        let b = takes_table3 M in
        rw (r.none, r.row_is, both_rows, idriss_row_at_lem b (neighbour_below idriss T))
        (rw (idriss_row_at_lem b (neighbour_above idriss T), r.on_step.rows.next) refl)

  -- ---- Boore and Atkinson

  module _ (t : Placed boore_atkinson boore_atkinson_row M R Vs mechanism T (P.Row k)) where
    pub boore_atkinson_moderate : Moderate (boore_atkinson_rows_of M R Vs mechanism k k).upper
    unfolding two_rows_of
    boore_atkinson_moderate =
        let r = placed_at_row t in
        let d = boore_atkinson_median_domain {k = k} (rw r.1 (boore_atkinson_row_lem _ r.0)) t.within in
        moderate (boore_atkinson_sized mechanism d) (omega arith)

    pub boore_atkinson_at_row :
        ◌≡◌ {A = Enclosure ℤ}
        record {
          median = ends_of (boore_atkinson_rows_of M R Vs mechanism k k).upper;
          sigma = sigma_of (total_at k) mechanism;
        }
        (boore_atkinson_enclosure_of M R Vs mechanism T)
    unfolding boore_atkinson_enclosure_of boore_atkinson_median_of two_rows_of
    boore_atkinson_at_row =
        let r = placed_at_row t in
        rw (r.0, r.1, row_at_lem T, total_at_lem T) refl

  module _ (t : Placed boore_atkinson boore_atkinson_row M R Vs mechanism T (P.Between k)) where
    abbrev medians : TwoRows
    medians = boore_atkinson_rows_of M R Vs mechanism k (k + 1)

    abbrev sigmas : TwoRows
    sigmas = two_rows_of k (k + 1) (λ j. sigma_pair_of (total_at j) mechanism)

    pub record Interpolates : Type 0 where
      pub median :
          let step = step_around boore_atkinson T in
          InterpolationDomain medians.lower medians.upper step.part step.whole
      pub sigma :
          let step = step_around boore_atkinson T in
          InterpolationDomain sigmas.lower sigmas.upper step.part step.whole

    pub boore_atkinson_interpolates : Interpolates
    boore_atkinson_interpolates =
        let r = placed_on_step boore_atkinson_tabled t in
        let d = boore_atkinson_median_domain r.on_step.last t.within in
        record {
          median = rw (r.row_is, both_rows)
              (boore_atkinson_takes mechanism (not_first r.on_step.rows) d r.on_step.step);
          sigma = rw (r.row_is, both_rows)
              (sigma_takes mechanism (not_first r.on_step.rows) r.on_step.last r.on_step.step);
        }

    pub boore_atkinson_between_rows :
        let step = step_around boore_atkinson T in
        ◌≡◌ {A = Enclosure ℤ}
        record {
          median = interpolated_of medians.lower medians.upper step.part step.whole;
          sigma = interpolated_of sigmas.lower sigmas.upper step.part step.whole;
        } (boore_atkinson_enclosure_of M R Vs mechanism T)
    unfolding boore_atkinson_enclosure_of boore_atkinson_between_of sigma_between_of
    boore_atkinson_between_rows =
        let r = placed_on_step boore_atkinson_tabled t in
        let T1 = neighbour_below boore_atkinson T in
        let T2 = neighbour_above boore_atkinson T in
        rw (r.none, r.row_is, both_rows, both_rows, row_at_lem T1, row_at_lem T2, total_at_lem T1, total_at_lem T2)
        (rw r.on_step.rows.next refl)
