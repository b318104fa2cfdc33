-- No answer keeps the promise for both of two scenarios whose medians are far apart.
use mathlib.Core.Path.{◌≡◌, refl}
use mathlib.Core.Bool.{Bool, ◌&&◌}
use mathlib.Core.List.{List, [], ◌∷◌}
use Prim.Native.Nat.{ℕ, ◌+◌, ◌≤◌, ◌<◌}
use native.Mathlib.Nat.{le_refl}
use native.Mathlib.Omega.{arith}
use lib.Dec.{T}
use lib.IntN.{ℤ, pos, ◌+ℤ◌}
use Rattle.toolbox_theory.specs.Whole.{up, down}
use Rattle.toolbox_theory.proofs.Whole.{le_out, add_is}
use Rattle.toolbox_theory.proofs.Tests.{both, each}
use Rattle.values_theory.specs.Table.{neg}
use Rattle.exact_theory.specs.Fraction.{◌over◌, le_q, ◌≤q◌, zero_q, neg_q, ◌+q◌, ◌-q◌, ◌*q◌, ◌/q◌, flip, recip_q, min_q}
use Rattle.exact_theory.specs.Fraction.{max_q}
use Rattle.exact_theory.specs.Pair.{exactly, ◌+p◌, ◌*p◌, ◌/p◌, span4, hull, ◌-p◌}
use Rattle.exact_theory.specs.Logarithm.{harmonic, lower_sum, upper_sum, ln_pair}
use Rattle.exact_theory.specs.Formula.{Formula, ln_q, eval, units, ends}
use Rattle.exact_theory.proofs.FractionLaws.{over-Is, le_as, ≤q_trans}
use Rattle.exact_theory.proofs.DefinedTest.{sound}
use Rattle.exact_theory.proofs.Coarse.{gap, negated, coarse, coarse_holds}
use Rattle.scenario_theory.specs.declared.Scenario.{Scenario}
use Rattle.scenario_theory.specs.Refusal.{beyond_periods, refusal_by, refusal_by_model, lacks_distance}
use Rattle.scenario_theory.specs.Refusal.{projection_exceeds, refusal_of}
use Rattle.idriss_theory.specs.Tables.{takes_table3, row_in}
use Rattle.idriss_theory.specs.Median.{alpha_part, beta_factor, F, median as idriss_median}
use Rattle.boore_atkinson_theory.specs.Tables.{row_for as second_row_for}
use Rattle.boore_atkinson_theory.specs.Rock as rock
use Rattle.boore_atkinson_theory.specs.SiteTerm as site
use Rattle.boore_atkinson_theory.specs.Median as boore_atkinson
use Rattle.engine_theory.specs.Models.{median, median_width}
use Rattle.engine_theory.specs.Promise.{EnclosedWithin}
use Rattle.pairs_theory.specs.ShutOut.{NoSharedAnswer, idriss_strong, idriss_weak, boore_atkinson_strong}
use Rattle.pairs_theory.specs.ShutOut.{boore_atkinson_weak, NoFixedEnds}

-- the order of whole numbers of units is that of the numbers
units_le : (a b : ℤ) → units a ≤q units b → up a + down b ≤ up b + down a
unfolding units
units_le a b h = omega (arith, le_as (over-Is a 1_000_000_000 (omega arith)) (over-Is b 1_000_000_000 (omega arith)) h)

-- ends that enclose both are further apart than b and a, where one formula is at least a and the other at most b units
apart : {f g : Formula} {v w : ℕ} {low high : ℤ} (a b : ℤ) →
    (units a ≤q (eval 1 f).low) × ((eval 1 g).high ≤q units b) →
    EnclosedWithin v f low high → EnclosedWithin w g low high → up a + down b ≤ up b + down a + v
unfolding ends up down
apart {v = v} {low = low} {high} a b far p q =
    let x = p.encloses.meets 1 (le_refl 1) in
    let y = q.encloses.meets 1 (le_refl 1) in
    let above = units_le a high (≤q_trans far.0 (≤q_trans x.right.from x.left.to)) in
    let below = units_le low b (≤q_trans y.left.from (≤q_trans y.right.to far.1)) in
    omega (arith, le_out high (low +ℤ pos v) p.narrow.le, add_is low (pos v))

-- the ends of the median are the first two values
same_ends : {l h m n l' h' m' n' : ℤ} {values : List ℤ} → values ≡ l ∷ h ∷ m ∷ n ∷ [] →
    values ≡ l' ∷ h' ∷ m' ∷ n' ∷ [] → (l ≡ l') × (h ≡ h')
same_ends e f = (cc, cc)

-- scenarios that are not refused, the median of one at least a units and that of the other at most b, share no answer
no_shared_answer : (s t : Scenario) (a b : ℤ) → refusal_of s ≡ 0 → refusal_of t ≡ 0 →
    (units a ≤q (eval 1 (median s)).low) × ((eval 1 (median t)).high ≤q units b) →
    up b + down a + median_width s < up a + down b → NoSharedAnswer s t
unfolding NoSharedAnswer
no_shared_answer s t a b accepted accepted' far wide x p q =
    let u = p.enclosed accepted in
    let w = q.enclosed accepted' in
    let same = same_ends u.four w.four in
    omega (arith, apart {w = median_width t} a b far u.median_enclosed (rw (same.0, same.1) w.median_enclosed))

-- ---- Idriss: the pairs at fineness 1

idriss_far : T
    (le_q (units (pos 0)) (eval 1 (median idriss_strong)).low &&
    le_q (eval 1 (median idriss_weak)).high (units (neg 1_000_000_000)))
unfolding units median idriss_median row_in takes_table3 alpha_part beta_factor F eval ln_q up ln_pair lower_sum
    upper_sum harmonic exactly ◌+p◌ ◌-p◌ ◌*p◌ span4 min_q max_q le_q zero_q neg_q ◌+q◌ ◌-q◌ ◌*q◌ ◌over◌
idriss_far = tt

idriss_apart : NoSharedAnswer idriss_strong idriss_weak
unfolding median_width up down refusal_of lacks_distance projection_exceeds refusal_by_model refusal_by beyond_periods
idriss_apart =
    let t = both (le_q (units (pos 0)) (eval 1 (median idriss_strong)).low) _ idriss_far in
    no_shared_answer idriss_strong idriss_weak (pos 0) (neg 1_000_000_000) refl refl
    (record { le = t.0 }, record { le = t.1 }) (omega arith)

-- ---- Boore-Atkinson: coarse pairs, as the sums of ln R² have 8,000 terms and more at fineness 1

-- the coarse pair of f is from a units on, and that of g is up to b
unfoldable far : Formula → Formula → ℤ → ℤ → Bool
far f g a b =
    (sound coarse f && sound coarse g) && (le_q (units a) (coarse f).low && le_q (coarse g).high (units b))

-- and so are the pairs
far_shows : (f g : Formula) (a b : ℤ) → T (far f g a b) →
    (units a ≤q (eval 1 f).low) × ((eval 1 g).high ≤q units b)
unfolding far
far_shows f g a b t =
    let u = both (sound coarse f && sound coarse g) _ t in
    let v = each (sound coarse f) _ (coarse_holds (le_refl 1) f) (coarse_holds (le_refl 1) g) u.0 in
    let w = both (le_q (units a) (coarse f).low) _ u.1 in
    (≤q_trans (record { le = w.0 }) v.0.low.from, ≤q_trans v.1.high.to (record { le = w.1 }))

boore_atkinson_far : T
    (far (median boore_atkinson_strong) (median boore_atkinson_weak) (neg 4_000_000_000) (neg 9_000_000_000))
unfolding far units median boore_atkinson.median boore_atkinson.p rock.on_rock rock.distance_term rock.magnitude_term
    rock.geometric_spreading rock.e rock.R rock.ln_r_over_rref ln_q up site.linear_part site.bnl site.nonlinear_part
    site.low_part site.transition site.high_part site.c site.d site.Δx site.Δy second_row_for sound coarse gap negated
    exactly hull ◌+p◌ ◌-p◌ ◌*p◌ ◌/p◌ span4 min_q max_q le_q zero_q neg_q ◌+q◌ ◌-q◌ ◌*q◌ ◌/q◌ flip recip_q ◌over◌
boore_atkinson_far = tt

boore_atkinson_apart : NoSharedAnswer boore_atkinson_strong boore_atkinson_weak
unfolding median_width up down refusal_of lacks_distance projection_exceeds refusal_by_model refusal_by beyond_periods
boore_atkinson_apart =
    no_shared_answer boore_atkinson_strong boore_atkinson_weak (neg 4_000_000_000) (neg 9_000_000_000) refl refl
    (far_shows (median boore_atkinson_strong) (median boore_atkinson_weak) _ _ boore_atkinson_far) (omega arith)

pub no_fixed_ends : NoFixedEnds
unfolding NoFixedEnds
no_fixed_ends = (idriss_apart, boore_atkinson_apart)
