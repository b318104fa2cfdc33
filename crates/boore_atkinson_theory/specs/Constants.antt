-- The site term's constant pairs, in units of 10^-9. proofs/Constants shows, by one computed
-- test, that they hold what they stand for.
use Rattle.std.specs.Prelude.{ℕ}
use Rattle.interval_theory.specs.declared.Ends.{Ends}

abbrev pair : ℕ → ℕ → Ends ℕ
pair low high = record { low = low; high = high }

-- ln(0.1/0.06), ln(1/0.03), ln(1/0.09), ln 10
abbrev pub minus_ln_low : Ends ℕ
minus_ln_low = pair 510_825_623 510_825_624

abbrev pub minus_ln_a1 : Ends ℕ
minus_ln_a1 = pair 3_506_557_897 3_506_557_898

abbrev pub minus_ln_a2 : Ends ℕ
minus_ln_a2 = pair 2_407_945_608 2_407_945_609

abbrev pub ln_ten : Ends ℕ
ln_ten = pair 2_302_585_092 2_302_585_094

-- 1/ln(300/180), 1/ln(760/300)
abbrev pub over_slow : Ends ℕ
over_slow = pair 1_957_615_188 1_957_615_192

abbrev pub over_fast : Ends ℕ
over_fast = pair 1_075_805_610 1_075_805_612

-- c and d over the slope: (3 ln 1.5 − ln 3)/ln² 3, (ln 3 − 2 ln 1.5)/ln³ 3
abbrev pub c_over : Ends ℕ
c_over = pair 97_587_419 97_587_424

abbrev pub d_over : Ends ℕ
d_over = pair 216_959_882 216_959_886
