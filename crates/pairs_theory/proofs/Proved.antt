-- Every pair holds, by the test of a row and the lemma of values_theory.
use Prim.Native.Nat.{zero, suc}
use native.Mathlib.Nat.{le_of_suc-le-suc}
use lib.ListN.{get_or, drop}
use lib.Dec.{T}
use Rattle.toolbox_theory.specs.Whole.{up}
use Rattle.toolbox_theory.specs.Lists.{filter, greatest, least}
use Rattle.toolbox_theory.proofs.Tests.{every, every_at}
use Rattle.exact_theory.specs.Fraction.{◌over◌, le_q, zero_q, neg_q, ◌+q◌, ◌*q◌, ◌/q◌, flip, recip_q, min_q, max_q}
use Rattle.exact_theory.specs.Fraction.{◌-q◌}
use Rattle.exact_theory.specs.Pair.{exactly, ◌+p◌, ◌*p◌, ◌/p◌, span4, hull, reaches_up_to, reaches_above, branch, ◌-p◌}
use Rattle.exact_theory.specs.Logarithm.{harmonic, lower_sum, upper_sum, ln_pair}
use Rattle.exact_theory.specs.Formula.{ln_q, eval}
use Rattle.exact_theory.proofs.DefinedTest.{sound}
use Rattle.interpolation_theory.specs.Between.{between}
use Rattle.scenario_theory.specs.Neighbours.{neighbour_below, neighbour_above}
use Rattle.idriss_theory.specs.Tables.{takes_table3, row_in}
use Rattle.idriss_theory.specs.Median.{alpha_part, beta_factor, F, median as idriss_median}
use Rattle.idriss_theory.specs.Sigma.{sigma as idriss_sigma}
use Rattle.boore_atkinson_theory.specs.Tables.{row_for as second_row_for, total_for}
use Rattle.boore_atkinson_theory.specs.Median.{sigma as second_sigma}
use Rattle.boore_atkinson_theory.specs.SiteTerm.{bnl}
use Rattle.boore_atkinson_theory.specs.SiteTerm as site
use Rattle.engine_theory.specs.Models.{median, sigma}
use Rattle.values_theory.specs.Table.{fraction, AllHold}
use Rattle.values_theory.proofs.Proved.{cut_to, passes, holds}
use Rattle.pairs_theory.specs.Pairs.{pairs}

-- in two parts, as one declaration may take so many steps and not more; the second opens what the first does
first_passes : T (passes (get_or pairs 0 (fraction zero_q zero_q)))
unfolding passes cut_to sound median sigma between neighbour_below neighbour_above filter greatest least idriss_median
    idriss_sigma second_sigma row_in second_row_for total_for takes_table3 bnl
    site.nonlinear_part site.low_part site.transition site.high_part site.c site.d site.Δx site.Δy alpha_part
    beta_factor
    F eval ln_q up ln_pair lower_sum upper_sum harmonic exactly ◌+p◌ ◌-p◌ ◌*p◌ ◌/p◌ span4 hull reaches_up_to
    reaches_above
    branch min_q max_q le_q zero_q neg_q ◌+q◌ ◌-q◌ ◌*q◌ ◌/q◌ flip recip_q ◌over◌
first_passes = tt

later_pass : T (every (λ k c. passes c) 1 (drop 1 pairs))
unfolding first_passes
later_pass = tt

pub pairs_hold : AllHold pairs
unfolding AllHold
pairs_hold zero h = holds _ first_passes
pairs_hold (suc k) h = holds _ (every_at (λ k c. passes c) _ 1 (drop 1 pairs) later_pass k (le_of_suc-le-suc h))
