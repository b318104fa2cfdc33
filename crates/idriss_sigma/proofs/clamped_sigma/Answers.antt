use Rattle.std.proofs.Common.{arith, lt-ltb, le-ltb, ◌∙◌}
use Rattle.interval_theory.specs.Natural.{sum_of}
use Rattle.interval_theory.specs.Signed.{ends_of}
use Rattle.idriss_theory.specs.Evaluation.{sigma_pair_of}
use Rattle.idriss_sigma.proofs.clamped_sigma.Goals as goal

pub returns-then-t-lt1000 : goal.returns-then-t-lt1000
unfolding sigma_pair_of ends_of sum_of
returns-then-t-lt1000 c =
    c.between.ensures ∙ rw (c.period_term-term.ensures.0, lt-ltb c.args.t 1_000 (omega arith))

pub returns : goal.returns
unfolding sigma_pair_of ends_of sum_of
returns c = c.between-2.ensures ∙ rw (c.period_term-term-2.ensures.0, le-ltb c.args.t 1_000 (omega arith))
