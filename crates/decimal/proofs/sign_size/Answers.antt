use Rattle.decimal.proofs.Signs.{no_sign, minus_sign}
use Rattle.decimal.proofs.sign_size.Goals as goal

pub returns-then-x-ge0 : goal.returns-then-x-ge0
returns-then-x-ge0 c = no_sign c.args.x c.ranges.x c.if-x-ge0.true

pub returns-else-x-ge0 : goal.returns-else-x-ge0
returns-else-x-ge0 c = minus_sign c.args.x c.ranges.x c.if-x-ge0.false
