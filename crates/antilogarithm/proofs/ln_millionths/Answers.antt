use Rattle.std.proofs.Common.{arith, ◌≡◌, ℕ, ◌^◌, ◌<◌}
use Rattle.interval_theory.specs.declared.Ends.{Ends}
use Rattle.logarithm_theory.specs.Promise.{LnDomain}
use Rattle.logarithm_theory.specs.Evaluation.{ln_of}
use Rattle.logarithm_theory.proofs.Laws.{ln_of_rounded}
use Rattle.antilogarithm.proofs.ln_millionths.Goals as goal

-- both ends of a logarithm are small
small : {a b : ℕ} {e : Ends ℕ} → LnDomain a b → e ≡ ln_of a b → (e.low < 2 ^ 63) × (e.high < 2 ^ 63)
small d e = rw e (omega (arith, (ln_of_rounded d).sized))

pub between-requires : goal.between-requires
between-requires c = omega (arith, small (omega (arith, c.if-k-ge1000000.true, c.requires)) c.ln-e.ensures.value)

pub between-requires-2 : goal.between-requires-2
between-requires-2 c =
    omega (arith, small (omega (arith, c.if-k-ge1000000.false, c.requires)) c.ln-e-2.ensures.value)
