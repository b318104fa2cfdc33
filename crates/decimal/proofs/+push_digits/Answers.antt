-- There is room for one digit more than the tenth has.
use Rattle.std.proofs.Common.{arith}
use Rattle.report_theory.proofs.TextLaws.{decimal_most, more_length}
use Rattle.decimal.proofs.+push_digits.Goals as goal

pub push-requires-2 : goal.push-requires-2
push-requires-2 t c = (
  omega arith,
  rw c.push_digits.ensures
      (omega (arith, more_length _ c.if-n-lt10.false c.ranges.n.fits, decimal_most c.args.n)),
)
