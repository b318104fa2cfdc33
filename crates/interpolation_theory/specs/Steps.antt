-- A step from one row to the next: the periods, and their logarithms, which all values between the two rows share.
use Rattle.std.specs.Prelude.{◌≡◌, List, ℕ, ◌+◌, ◌^◌, ◌≤◌, ◌<◌, get_or}
use Rattle.logarithm_theory.specs.Evaluation.{ln_of}
use Rattle.interpolation_theory.specs.declared.Neighbours.{Neighbours}
use Rattle.interpolation_theory.specs.declared.Step.{Step}

-- two rows, of the periods T1 and T2
abbrev pub neighbours_of : ℕ → ℕ → Neighbours
neighbours_of T1 T2 = record { lower = T1; upper = T2; whole = ln_of T2 T1 }

-- and a period T between them
abbrev pub step_of : ℕ → ℕ → ℕ → Step
step_of T T1 T2 = record { period = T; lower = T1; upper = T2; part = ln_of T T1; whole = ln_of T2 T1 }

-- s goes from row k of a table with these periods to the next
pub record StepAt (periods : List ℕ) (k : ℕ) (s : Step) : Type 0 where
  pub is : s ≡ step_of s.period s.lower s.upper
  pub lower : s.lower ≡ get_or periods k 0
  pub upper : s.upper ≡ get_or periods (k + 1) 0
  pub above : s.lower < s.period
  pub below : s.period < s.upper

-- how large the ends of ln(T2/T1) are at least, some units below ln 1.2 (0.25 and 0.3 s), and at most, some above ln 2
-- (0.01 and 0.02 s)
abbrev pub step_least : ℕ
step_least = 182_321_550

abbrev pub step_most : ℕ
step_most = 693_147_190

-- T lies between T1 and T2, which are neighbours: as far apart as those of the models' tables are
pub record Neighbouring (T T1 T2 : ℕ) : Type 0 where
  pub some : 1 ≤ T1
  pub above : T1 < T
  pub below : T < T2
  pub small : T2 < 2 ^ 29
  pub least : step_least ≤ (ln_of T2 T1).low
  pub most : (ln_of T2 T1).high ≤ step_most
