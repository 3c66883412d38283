use Rattle.std.proofs.Common.{rules}
use Rattle.shape.specs.Price.{less_for}
use Rattle.shape_price.proofs.solid.less_for.Goals as goal

pub returns-then-x : goal.returns-then-x
unfolding less_for
returns-then-x c = (rw c.if-x.true, search rules)

pub returns : goal.returns
unfolding less_for
returns c = (rw c.if-x.false, search rules)
