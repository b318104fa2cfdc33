-- the root is at most s, and s squared fits
use Rattle.std.proofs.Common.{◌*◌, ◌^◌, ◌<◌}
use Prim.Native.Nat.{suc}
use Rattle.logarithm.proofs.whole_root.Given as goal

abbrev pub invariant-loop-s : goal.invariant-loop-s
invariant-loop-s l = record { above : l.n < suc l.s * suc l.s; fits : l.s < 2 ^ 32 }

abbrev pub decreases-loop-s : goal.decreases-loop-s
decreases-loop-s l = l.s
