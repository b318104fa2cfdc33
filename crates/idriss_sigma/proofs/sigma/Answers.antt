use Rattle.std.proofs.Common.{arith}
use Rattle.idriss_theory.proofs.SigmaLaws.{sigma_ends}
use Rattle.idriss_sigma.proofs.sigma.Goals as goal

pub returns-then-period-le50 : goal.returns-then-period-le50
returns-then-period-le50 c =
    let e = sigma_ends c.clamped_sigma.ensures (omega arith) (omega arith) in
    record { value = e.0; sigma_ends = e.1 }

pub returns-then-period-ge3000 : goal.returns-then-period-ge3000
returns-then-period-ge3000 c =
    let e = sigma_ends c.clamped_sigma-then-period-ge3000.ensures (omega arith) (omega arith) in
    record { value = e.0; sigma_ends = e.1 }

pub returns : goal.returns
returns c =
    let e = sigma_ends c.clamped_sigma-2.ensures (omega arith) (omega arith) in
    record { value = e.0; sigma_ends = e.1 }
