-- Every row of the table of values holds: one test that antt computes over the table, and one lemma that turns it into
-- each row's fact.
use mathlib.Core.Path.{◌≡◌, refl, ap}
use mathlib.Core.Bool.{Bool, true, false, not, ◌&&◌}
use mathlib.Core.List.{List, [], ◌∷◌}
use Prim.Native.Nat.{ℕ, ◌^◌, ◌≤◌}
use Rattle.std.specs.Prelude.{Option, Some, None}
use lib.IntN.{ℤ, pos, ◌+ℤ◌}
use lib.Dec.{T, eqb, leb, eqb→eq, leb→le}
use Rattle.toolbox_theory.proofs.Tests.{and_left, and_right, every, every_at}
use Rattle.exact_theory.specs.Fraction.{Fraction, ◌over◌, le_q, zero_q, neg_q, ◌+q◌, ◌*q◌, ◌-q◌}
use Rattle.exact_theory.specs.Logarithm.{harmonic, lower_sum, upper_sum, ln_pair}
use Rattle.exact_theory.specs.Root.{greatest, whole_root, root_values, root_pair}
use Rattle.exact_theory.specs.Formula.{Formula, eval, Defined}
use Rattle.exact_theory.proofs.DefinedTest.{sound, defined}
use Rattle.scenario_theory.specs.Refusal.{beyond_periods, refusal_by, refusal_by_model, lacks_distance}
use Rattle.scenario_theory.specs.Refusal.{projection_exceeds, refusal_of}
use Rattle.record_theory.specs.Layout.{size_of, numbers_of, absent_written}
use Rattle.record_theory.specs.Outcome.{reading_number, reading_values, scenario_in, length_by, map_refusal}
use Rattle.record_theory.specs.Outcome.{read_refusal}
use Rattle.record_theory.specs.Outcome.{read_of}
use Rattle.idriss_theory.specs.Tables.{takes_table3, row_in}
use Rattle.idriss_theory.specs.Median.{alpha_part, beta_factor}
use Rattle.boore_atkinson_theory.specs.Tables.{row_for as second_row_for}
use Rattle.boore_atkinson_theory.specs.SiteTerm.{bnl}
use Rattle.values_theory.specs.Table.{Check, pair_at, cut_at, at_every, fraction, reads, HasEnds, CutTo, Holds}
use Rattle.values_theory.specs.Table.{AllHold, values}
use Rattle.values_theory.proofs.Constant.{same, same_is, is_same, when, Constant, merged, zero_over, positive}
use Rattle.values_theory.proofs.Constant.{ln_constant, constant}

-- ---- the test of a row

unfoldable pub same_value : Option ℕ → Option ℕ → Bool
same_value None None = true
same_value None (Some y) = false
same_value (Some x) None = false
same_value (Some x) (Some y) = eqb x y

unfoldable pub same_list : List (Option ℕ) → List (Option ℕ) → Bool
same_list [] [] = true
same_list [] (y ∷ ys) = false
same_list (x ∷ xs) [] = false
same_list (x ∷ xs) (y ∷ ys) = same_value x y && same_list xs ys

-- a number is found, and it is x
unfoldable pub matches : {e : Formula} → Option (Constant e) → Fraction → Bool
matches None x = false
matches (Some c) x = same c.number x

-- x in 10^-60, rounded down, is z
unfoldable pub cut_to : Fraction → ℤ → Bool
cut_to x z = le_q (z over (10 ^ 60)) x && not (le_q ((z +ℤ pos 1) over (10 ^ 60)) x)

unfoldable pub passes : Check → Bool
passes (pair_at n e x y) = (leb 1 n && sound (eval n) e) && (same (eval n e).low x && same (eval n e).high y)
passes (cut_at n e x y) = (leb 1 n && sound (eval n) e) && (cut_to (eval n e).low x && cut_to (eval n e).high y)
passes (at_every e x) = matches (constant e) x
passes (fraction x y) = same x y
passes (reads s xs) = eqb (reading_number (read_of s)) 0 && same_list (reading_values (read_of s)) xs

-- ---- and what it shows

same_value_lem : (x y : Option ℕ) → T (same_value x y) → x ≡ y
unfolding same_value
same_value_lem None None t = refl
same_value_lem None (Some y) t = absurd t
same_value_lem (Some x) None t = absurd t
same_value_lem (Some x) (Some y) t = ap Some (eqb→eq x y t)

same_list_lem : (xs ys : List (Option ℕ)) → T (same_list xs ys) → xs ≡ ys
unfolding same_list
same_list_lem [] [] t = refl
same_list_lem [] (y ∷ ys) t = absurd t
same_list_lem (x ∷ xs) [] t = absurd t
same_list_lem (x ∷ xs) (y ∷ ys) t = search (and_left, and_right, same_value_lem, same_list_lem xs ys)

is_cut : (x : Fraction) (z : ℤ) → T (cut_to x z) → CutTo x z
unfolding cut_to
is_cut x z t = search (and_left, and_right)

at_every_lem : {e : Formula} (x : Fraction) (c : Option (Constant e)) → T (matches c x) →
    (n : ℕ) → 1 ≤ n → Defined n e × HasEnds (eval n e) x x
unfolding matches
at_every_lem x None t n h = absurd t
at_every_lem x (Some c) t n h = ((c.at n h).0, is_same (c.at n h).1 t)

pub holds : (c : Check) → T (passes c) → Holds c
unfolding passes Holds Defined
holds (pair_at n e x y) t = search (and_left, and_right, leb→le, defined, same_is)
holds (cut_at n e x y) t = search (and_left, and_right, leb→le, defined, is_cut)
holds (at_every e x) t = at_every_lem x (constant e) t
holds (fraction x y) t = same_is t
holds (reads s xs) t = search (and_left, and_right, eqb→eq, same_list_lem)

-- ---- all of them

all_pass : T (every (λ k c. passes c) 0 values)
unfolding passes matches constant ln_constant when merged zero_over positive row_in second_row_for takes_table3 bnl
    alpha_part beta_factor ◌-q◌ ◌*q◌ sound same same_value same_list eval ln_pair lower_sum upper_sum harmonic root_pair
    root_values whole_root greatest le_q zero_q neg_q ◌+q◌ ◌over◌ read_of read_refusal map_refusal scenario_in length_by
    numbers_of size_of absent_written refusal_of lacks_distance projection_exceeds refusal_by_model refusal_by
    beyond_periods
all_pass = tt

pub all_hold : AllHold values
unfolding AllHold
all_hold k h = holds _ (every_at (λ k c. passes c) _ 0 values all_pass k h)
