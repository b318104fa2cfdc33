-- What `median_between_of` promises (specs/Promise), between any two neighbouring rows of either table.
use mathlib.Core.Bool.{Bool}
use Prim.Native.Nat.{ℕ, ◌+◌, ◌-◌}
use native.Mathlib.Omega.{arith}
use lib.Count.{count_leading_zeros}
use lib.Dec.{T}
use Rattle.toolbox_theory.proofs.Tests.{all_below, below, all_le}
use Rattle.interval_theory.specs.declared.SignedPair.{SignedPair}
use Rattle.logarithm_tables_theory.specs.Tables.{coarse_at, fine_at}
use Rattle.logarithm_theory.specs.Evaluation.{scaled_of, near_one_of, mantissa_ln_of, scaled_ln_of, ln_of}
use Rattle.interpolation_theory.specs.declared.Step.{Step}
use Rattle.interpolation_theory.specs.Evaluation.{InterpolationDomain}
use Rattle.interpolation_theory.specs.Steps.{StepAt, Neighbouring}
use Rattle.interpolation_theory.proofs.StepLaws.{gap, neighbouring, step_takes, between_promise}
use Rattle.scenario_theory.specs.Refusal.{idriss}
use Rattle.scenario_theory.specs.Rows.{row_count}
use Rattle.idriss_theory.specs.Rows.{row_at}
use Rattle.idriss_theory.specs.Promise.{MedianDomain, median_width, between_width, MedianBetweenEnds}
use Rattle.idriss_theory.specs.Evaluation.{median_pair_of, median_between_of}
use Rattle.idriss_theory.specs.Ranges.{row_step, median_least, median_most}
use Rattle.idriss_theory.proofs.Laws.{median_pair_of_at_points, median_pair_of_sized}
use Rattle.idriss_theory.proofs.Ranges.{median_pair_of_ranges, rows_near}

all_gaps : T (all_below (row_count - 1) (λ k. all_le (gap idriss.periods k)))
unfolding all_below ln_of scaled_of scaled_ln_of mantissa_ln_of near_one_of coarse_at fine_at count_leading_zeros
all_gaps = tt

module _ (is_table3 : Bool) {k m d v : ℕ} (mechanism : ℕ) (h : MedianDomain (k + 1) m d v) {s : Step}
    (at : StepAt idriss.periods k s) where
  abbrev pair : ℕ → SignedPair
  pair j = median_pair_of (row_at is_table3 j) m d v mechanism

  first : MedianDomain k m d v
  first = omega arith

  next : Neighbouring s.period s.lower s.upper
  next =
      neighbouring idriss.periods k
      (below (row_count - 1) (λ k. all_le (gap idriss.periods k)) all_gaps k (omega arith)) at

  pub between_takes : InterpolationDomain (pair k) (pair (k + 1)) s.part s.whole
  between_takes =
      rw at.is
      (step_takes next (pair k) (pair (k + 1)) (median_pair_of_sized is_table3 mechanism first)
      (median_pair_of_sized is_table3 mechanism h) row_step (rows_near is_table3 k mechanism h) (omega arith)
      (omega arith)
      (omega arith))

  pub median_between_of_promise :
      MedianBetweenEnds (row_at is_table3 k) (row_at is_table3 (k + 1)) s m d v mechanism
      (median_between_of (row_at is_table3 k) (row_at is_table3 (k + 1)) s m d v mechanism)
  unfolding median_between_of
  median_between_of_promise =
      rw at.is
      (between_promise next (pair k) (pair (k + 1)) (median_pair_of_sized is_table3 mechanism first)
      (median_pair_of_sized is_table3 mechanism h) row_step (rows_near is_table3 k mechanism h)
      (median_pair_of_at_points is_table3 mechanism first) (median_pair_of_at_points is_table3 mechanism h) 31
      (omega (arith, next.least)) median_width median_least median_most between_width 100 (omega arith)
      (median_pair_of_ranges is_table3 mechanism first) (median_pair_of_ranges is_table3 mechanism h))
