use Rattle.std.proofs.Common.{arith}
use Rattle.exact_theory.proofs.RootLaws.{whole_root_is, root_unique}
use Rattle.logarithm_theory.proofs.Newton.{falls, still_above, first}
use Rattle.logarithm.proofs.whole_root.Goals as goal

pub loop-s-init : goal.loop-s-init
loop-s-init c =
    let f = first _ c.requires in rw f.shifted (record { above = f.above; fits = omega arith })

pub loop-s-preserved : goal.loop-s-preserved
loop-s-preserved c = record {
  above = still_above _ _ c.loop-s-test.true;
  fits = omega (arith, falls _ _ c.loop-s-test.true);
}

pub returns : goal.returns
returns c =
    root_unique (record { low = c.loop-s-test.false; high = c.loop-s.invariant.above }) (whole_root_is _)
