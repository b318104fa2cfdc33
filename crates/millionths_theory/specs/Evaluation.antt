-- What is computed. A change of the way of computing swaps these definitions behind their names; callers go by the
-- promises of specs/Promise, and never by this text.
use Rattle.std.specs.Prelude.{Bool, cond, ℕ, zero, suc, ◌-◌, leb, ℤ, Ok, Err}
use Rattle.std.specs.Int.Signed.{le_z}
use Rattle.interval_theory.specs.declared.Ends.{Ends}
use Rattle.interval_theory.specs.Signed.{between_of}
use Rattle.logarithm_theory.specs.Evaluation.{ln_of}
use Rattle.scenario_theory.specs.declared.Scenario.{Scenario}
use Rattle.engine_theory.specs.Promise.{Answer}
use Rattle.engine_theory.specs.Evaluation.{answer_of}
use Rattle.millionths_theory.specs.declared.Floor.{Floor}
use Rattle.millionths_theory.specs.Promise.{MillionthsAnswer, million}

-- the engine's ends of ln(k/10^6) for k from 10^6 on, and of −ln(10^6/k) for k before it, of at least 1
abbrev pub from_million : ℕ → Ends ℤ
from_million k = between_of (ln_of k million).low 0 (ln_of k million).high 0

abbrev pub before_million : ℕ → Ends ℤ
before_million k = between_of 0 (ln_of million k).high 0 (ln_of million k).low

unfoldable pub ln_millionths : ℕ → Ends ℤ
ln_millionths k = cond (leb million k) (from_million k) (before_million k)

-- no median has more: 10^6 e^2.1 is less
abbrev pub most : ℕ
most = 8_388_607

-- the greatest k up to n that passes a test; 0 where none does
unfoldable pub greatest_passing : (ℕ → Bool) → ℕ → ℕ
greatest_passing test zero = zero
greatest_passing test (suc n) = cond (test (suc n)) (suc n) (greatest_passing test n)

-- ln(k/10^6) is surely up to z units
abbrev pub up_to : ℤ → ℕ → Bool
up_to z k = le_z (ln_millionths k).high z

-- the greatest such k, and the low end of the next
unfoldable pub floor_of : ℤ → Floor
floor_of z = let a : ℕ = greatest_passing (up_to z) most in record { whole = a; next = (ln_millionths (suc a)).low }

-- the first number from k on that passes a test; where none of n does, the next
unfoldable pub first_passing : (ℕ → Bool) → ℕ → ℕ → ℕ
first_passing test zero k = k
first_passing test (suc n) k = cond (test k) k (first_passing test n (suc k))

-- ln(k/10^6) is surely z units or more
abbrev pub at_least : ℤ → ℕ → Bool
at_least z k = le_z z (ln_millionths k).low

-- the first such k after a
unfoldable pub ceiling_after : ℕ → ℤ → ℕ
ceiling_after a z = first_passing (at_least z) (most - a) (suc a)

-- from the ends of a logarithm: the greatest a with ln(a/10^6) up to the low one, and the first b after it with
-- ln(b/10^6) from the high one on
unfoldable pub millionths_from : Ends ℤ → Ends ℕ
millionths_from e = let a : ℕ = (floor_of e.low).whole in record { low = a; high = ceiling_after a e.high }

-- of an answer, and of a scenario
unfoldable pub in_millionths : Answer → MillionthsAnswer
in_millionths (Ok e) = Ok (millionths_from e.median)
in_millionths (Err r) = Err r

unfoldable pub millionths_of : Scenario → MillionthsAnswer
millionths_of s = in_millionths (answer_of s)
