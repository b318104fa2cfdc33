-- The digits of the tenth and one more.
use Rattle.std.proofs.Common.{arith}
use Rattle.report_theory.proofs.TextLaws.{decimal_most, more_length}
use Rattle.decimal.proofs.+decimal_length.Goals as goal

pub returns : goal.returns
returns t c = omega (arith, more_length _ c.if-n-lt10.false c.ranges.n.fits, decimal_most c.args.n)
