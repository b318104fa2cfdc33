use Rattle.std.proofs.Common.{arith}
use Rattle.logarithm_theory.proofs.Octave.{scales, unequal}
use Rattle.logarithm_theory.proofs.Laws.{ln_ends_lem}
use Rattle.logarithm.proofs.ln_hundredths.Goals as goal

pub scaled_ln-requires : goal.scaled_ln-requires
scaled_ln-requires c = rw c.scale-s.ensures (scales c.requires.0).normal

pub returns : goal.returns
returns c =
    let e = ln_ends_lem c.requires.0 (unequal c.args.a 100 (λ e. omega arith) cc) in
    record { value = e.0; ln_ends = e.1 }
