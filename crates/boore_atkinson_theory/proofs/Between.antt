-- What `median_between_of` and `sigma_between_of` promise (specs/Promise), between any two neighbouring rows of the
-- tables; the row PGA, 0, is no neighbour.
use mathlib.Core.Bool.{Bool, true, false, cond}
use mathlib.Core.List.{List, [], ◌∷◌}
use mathlib.Core.Path.{◌≡◌}
use Prim.Native.Nat.{ℕ, ◌+◌, ◌*◌, ◌-◌, ◌/◌, ◌≤◌, ◌<◌}
use native.Mathlib.Nat.{div-mul-le_self}
use native.Mathlib.Omega.{arith}
use lib.Count.{count_leading_zeros}
use lib.Dec.{T, eqb}
use lib.ListN.{get_or}
use Rattle.toolbox_theory.specs.Whole.{up, down}
use Rattle.toolbox_theory.proofs.Tests.{all_below, below, all_le, all_le_lem}
use Rattle.exact_theory.specs.Fraction.{◌over◌}
use Rattle.interval_theory.specs.declared.SignedPair.{SignedPair}
use Rattle.interval_theory.specs.Bound.{Ranges, Near}
use Rattle.logarithm_tables_theory.specs.Tables.{coarse_at, fine_at}
use Rattle.logarithm_theory.specs.Evaluation.{scaled_of, near_one_of, mantissa_ln_of, scaled_ln_of, ln_of}
use Rattle.logarithm_theory.proofs.Bounds.{ln_sized}
use Rattle.interpolation_theory.specs.declared.Step.{Step}
use Rattle.interpolation_theory.specs.Evaluation.{InterpolationDomain}
use Rattle.interpolation_theory.specs.Steps.{StepAt, Neighbouring}
use Rattle.interpolation_theory.proofs.StepLaws.{gap, neighbouring, whole_domain, step_takes, between_promise}
use Rattle.scenario_theory.specs.Refusal.{boore_atkinson}
use Rattle.scenario_theory.specs.Rows.{row_count}
use Rattle.boore_atkinson_theory.specs.Rows.{row_at, total_at, total_parts}
use Rattle.boore_atkinson_theory.specs.Promise.{MedianDomain, median_width, between_width, sigma_between_width}
use Rattle.boore_atkinson_theory.specs.Promise.{MedianBetweenEnds, SigmaBetweenEnds}
use Rattle.boore_atkinson_theory.specs.Evaluation.{median_pair_of, median_between_of, exact_pair, sigma_pair_of}
use Rattle.boore_atkinson_theory.specs.Evaluation.{sigma_between_of}
use Rattle.boore_atkinson_theory.specs.Ranges.{row_step, median_least, median_most}
use Rattle.boore_atkinson_theory.proofs.Laws.{median_pair_of_at_points, median_pair_of_sized}
use Rattle.boore_atkinson_theory.proofs.Laws.{sigma_pair_of_at_points, sigma_pair_of_sized}
use Rattle.boore_atkinson_theory.proofs.Ranges.{median_pair_of_ranges, rows_near}

-- the periods of the rows, and the rows k that have a neighbour after them: 1 to 20, here as j + 1
abbrev periods : List ℕ
periods = 0 ∷ boore_atkinson.periods

all_gaps : T (all_below (row_count - 2) (λ j. all_le (gap periods (j + 1))))
unfolding all_below ln_of scaled_of scaled_ln_of mantissa_ln_of near_one_of coarse_at fine_at count_leading_zeros
all_gaps = tt

module _ {k : ℕ} (some : 1 ≤ k) (few : k + 1 < row_count) {s : Step} (at : StepAt periods k s) where
  pub next : Neighbouring s.period s.lower s.upper
  next =
      let j : k - 1 + 1 ≡ k = omega arith in
      neighbouring periods k
      (rw j at (below (row_count - 2) (λ j. all_le (gap periods (j + 1))) all_gaps (k - 1) (omega arith))) at

-- ---- the median

module _ {k m d v : ℕ} (mechanism : ℕ) (some : 1 ≤ k) (h : MedianDomain (k + 1) m d v) {s : Step}
    (at : StepAt periods k s) where
  abbrev pair : ℕ → SignedPair
  pair j = median_pair_of (row_at j) m d v mechanism

  first : MedianDomain k m d v
  first = omega arith

  pub between_takes : InterpolationDomain (pair k) (pair (k + 1)) s.part s.whole
  between_takes =
      rw at.is
      (step_takes (next some h.row at) (pair k) (pair (k + 1)) (median_pair_of_sized mechanism first)
      (median_pair_of_sized mechanism h) row_step (rows_near mechanism first h) (omega arith) (omega arith)
      (omega arith))

  pub median_between_of_promise :
      MedianBetweenEnds (row_at k) (row_at (k + 1)) s m d v mechanism
      (median_between_of (row_at k) (row_at (k + 1)) s m d v mechanism)
  unfolding median_between_of
  median_between_of_promise =
      rw at.is
      (between_promise (next some h.row at) (pair k) (pair (k + 1)) (median_pair_of_sized mechanism first)
      (median_pair_of_sized mechanism h) row_step (rows_near mechanism first h)
      (median_pair_of_at_points mechanism first) (median_pair_of_at_points mechanism h) 439
      (omega (arith, (next some h.row at).least)) median_width median_least median_most between_width 1_000
      (omega arith)
      (median_pair_of_ranges mechanism first) (median_pair_of_ranges mechanism h))

-- ---- sigma

-- the totals of neighbouring rows differ by a fourth of the logarithm at most, in both columns
abbrev totals : ℕ → List (ℕ × ℕ)
totals k =
    let most = (ln_of (get_or periods (k + 1) 0) (get_or periods k 0)).low / 4 in
    let a = total_parts (total_at k) in
    let b = total_parts (total_at (k + 1)) in
    (1_000_000 * a.0, 1_000_000 * b.0 + most) ∷ (1_000_000 * b.0, 1_000_000 * a.0 + most) ∷
    (1_000_000 * a.1, 1_000_000 * b.1 + most) ∷ (1_000_000 * b.1, 1_000_000 * a.1 + most) ∷ []

all_totals : T (all_below (row_count - 2) (λ j. all_le (totals (j + 1))))
unfolding all_below total_at up down ◌over◌ ln_of scaled_of scaled_ln_of mantissa_ln_of near_one_of
    coarse_at fine_at count_leading_zeros
all_totals = tt

module _ {k : ℕ} (mechanism : ℕ) (some : 1 ≤ k) (few : k + 1 < row_count) {s : Step} (at : StepAt periods k s) where
  abbrev own : ℕ → SignedPair
  own j = sigma_pair_of (total_at j) mechanism

  abbrev most : ℕ
  most = (ln_of s.upper s.lower).low / 4

  near : Near most (own k) (own (k + 1))
  unfolding sigma_pair_of
  near =
      let j : k - 1 + 1 ≡ k = omega arith in
      let t = rw j at (below (row_count - 2) (λ j. all_le (totals (j + 1))) all_totals (k - 1) (omega arith)) in
      let p = all_le_lem (totals k) t in
      let pair : Bool → ℕ → SignedPair =
      λ b i. exact_pair (1_000_000 * cond b (total_parts (total_at i)).0 (total_parts (total_at i)).1) in
      rw (at.lower, at.upper)
      (elim (eqb mechanism 9) as
      (λ b. Near ((ln_of (get_or periods (k + 1) 0) (get_or periods k 0)).low / 4) (pair b k) (pair b (k + 1))) [
        | true ↦ omega (arith, p)
        | false ↦ omega (arith, p)
      ])

  reach : (j : ℕ) → j < row_count → Ranges 0 1_000_000_000 (own j)
  unfolding sigma_pair_of
  reach j h = omega (arith, sigma_pair_of_sized j mechanism h)

  fourth : most * 4 ≤ (ln_of s.upper s.lower).low
  fourth = div-mul-le_self (ln_of s.upper s.lower).low 4

  pub sigma_takes : InterpolationDomain (own k) (own (k + 1)) s.part s.whole
  sigma_takes =
      let n = next some few at in
      let order = (ln_sized (whole_domain n)).order in
      rw at.is
      (step_takes n (own k) (own (k + 1)) (sigma_pair_of_sized k mechanism (omega arith))
      (sigma_pair_of_sized (k + 1) mechanism few) most near (omega arith) (omega arith)
      (omega (arith, fourth, order, n.most)))

  pub sigma_between_of_promise :
      SigmaBetweenEnds (total_at k) (total_at (k + 1)) s mechanism
      (sigma_between_of (total_at k) (total_at (k + 1)) s mechanism)
  unfolding sigma_between_of
  sigma_between_of_promise =
      rw at.is
      (between_promise (next some few at) (own k) (own (k + 1)) (sigma_pair_of_sized k mechanism (omega arith))
      (sigma_pair_of_sized (k + 1) mechanism few) most near
      (sigma_pair_of_at_points k mechanism (omega arith)) (sigma_pair_of_at_points (k + 1) mechanism few) 1
      (omega (arith, fourth)) 0 0 1_000_000_000 sigma_between_width 100 (omega arith) (reach k (omega arith))
      (reach (k + 1) few))
