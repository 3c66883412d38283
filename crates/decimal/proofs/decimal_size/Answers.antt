use Rattle.std.proofs.Common.{arith}
use lib.Count.{leading_le}
use Rattle.decimal.proofs.Bits.{guess_right, guess_low}
use Rattle.decimal.proofs.decimal_size.Goals as goal

pub overflow_cast-bits : goal.overflow_cast-bits
overflow_cast-bits c = omega (arith, leading_le 64 c.args.n)

pub overflow_sub-bits : goal.overflow_sub-bits
overflow_sub-bits c = leading_le 64 c.args.n

pub returns-then-n-ten_to : goal.returns-then-n-ten_to
returns-then-n-ten_to c = guess_right c.args.n c.ranges.n.fits (rw c.ten_to.ensures at c.if-n-ten_to.true)

pub returns-else-n-ten_to : goal.returns-else-n-ten_to
returns-else-n-ten_to c = guess_low c.args.n c.ranges.n.fits (rw c.ten_to.ensures at c.if-n-ten_to.false)
