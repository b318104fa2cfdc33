-- What the model of a scenario gives, as the papers have it, between rows as W-201 has it and by each model's own
-- distance as W-202 has it, and how far apart the ends of an answer may be.
use Rattle.std.specs.Prelude.{cond, List, ℕ, ◌*◌, eqb}
use Rattle.exact_theory.specs.Formula.{Formula, ln}
use Rattle.interpolation_theory.specs.Between.{between}
use Rattle.scenario_theory.specs.declared.Scenario.{Scenario}
use Rattle.scenario_theory.specs.Distances.{given}
use Rattle.scenario_theory.specs.Refusal.{Limits, idriss, boore_atkinson}
use Rattle.scenario_theory.specs.Neighbours.{has_row, neighbour_below, neighbour_above}
use Rattle.idriss_theory.specs.Tables.{Row, table_for, row_in}
use Rattle.idriss_theory.specs.Median.{median as idriss_median}
use Rattle.idriss_theory.specs.Sigma.{sigma as idriss_sigma}
use Rattle.boore_atkinson_theory.specs.Tables.{row_for, total_for}
use Rattle.boore_atkinson_theory.specs.Median.{median as boore_atkinson_median, sigma as boore_atkinson_sigma}

-- x of an Idriss scenario, y of a Boore-Atkinson scenario: "model 1" and "model 2" ('The scenario'); no other model is
-- answered
module _ {A : Type 0} where
  abbrev pub by_model : Scenario → A → A → A
  by_model s x y = cond (eqb s.model 1) x y

-- what a model gives at the period T, f t being what it gives by the row of a tabled period t: "Tabled periods answer
-- as before", any other "between the two neighbouring rows of the model" (W-201)
abbrev pub at_period : Limits → ℕ → (ℕ → Formula) → Formula
at_period m T f =
    let T1 : ℕ = neighbour_below m T in
    let T2 : ℕ = neighbour_above m T in
    cond (has_row m T) (f T) (between T T1 T2 (f T1) (f T2))

-- Idriss's median by one of its tables ('Idriss'), at the rupture distance R
abbrev pub idriss_median_by : List Row → ℕ → Scenario → Formula
idriss_median_by table R s =
    at_period idriss s.period
    (λ t. idriss_median (row_in table t) s.magnitude R s.velocity s.mechanism)

-- and Boore-Atkinson's ('Boore-Atkinson on rock', 'The site term'), at the projection distance RJB
abbrev pub boore_atkinson_median_by : ℕ → Scenario → Formula
boore_atkinson_median_by RJB s =
    at_period boore_atkinson s.period
    (λ t. boore_atkinson_median (row_for t) s.magnitude RJB s.velocity s.mechanism)

-- a model gives nothing where the distance that it reads is absent: this formula is `Defined` at no fineness, as ln 0
-- is not, so that no ends enclose it
abbrev pub undefined : Formula
undefined = ln 0 1

-- "the exact natural logarithm that the model gives with its printed coefficients" (demand 3); of the distances "each
-- model must read its own" (W-202)
unfoldable pub median : Scenario → Formula
median s =
    by_model s (given (idriss.reads s) (λ R. idriss_median_by (table_for s.magnitude) R s) undefined)
    (given (boore_atkinson.reads s) (λ RJB. boore_atkinson_median_by RJB s) undefined)

-- "Sigma of Boore-Atkinson goes the same way" (W-201)
abbrev pub boore_atkinson_sigma_by : Scenario → Formula
boore_atkinson_sigma_by s =
    at_period boore_atkinson s.period (λ t. boore_atkinson_sigma (total_for t) s.mechanism)

-- "the model's exact sigma" (demand 3); "sigma of Idriss uses T itself" (W-201)
unfoldable pub sigma : Scenario → Formula
sigma s = by_model s (idriss_sigma s.period s.magnitude) (boore_atkinson_sigma_by s)

-- "at most 100 units of 10^-9 apart for Idriss" (demand 3)
abbrev pub idriss_width : ℕ
idriss_width = 100

-- "and 2,000 for Boore-Atkinson" (demand 3)
abbrev pub boore_atkinson_width : ℕ
boore_atkinson_width = 2_000

-- "twice the tabled widths for the median" between rows (W-201)
abbrev pub width_at : Limits → ℕ → ℕ → ℕ
width_at m T tabled = cond (has_row m T) tabled (2 * tabled)

-- how far the ends of the median may be apart
unfoldable pub median_width : Scenario → ℕ
median_width s =
    by_model s (width_at idriss s.period idriss_width) (width_at boore_atkinson s.period boore_atkinson_width)

-- "at most 10 units apart" (demand 3), "between rows too" (W-205)
abbrev pub idriss_sigma_width : ℕ
idriss_sigma_width = 10

-- "and 20 units for sigma" between rows (W-201), of Boore-Atkinson
abbrev pub sigma_between_width : ℕ
sigma_between_width = 20

-- and those of sigma; by a row of Boore-Atkinson "Its two ends are equal" ('Boore-Atkinson on rock')
unfoldable pub sigma_width : Scenario → ℕ
sigma_width s =
    by_model s idriss_sigma_width (cond (has_row boore_atkinson s.period) 0 sigma_between_width)
