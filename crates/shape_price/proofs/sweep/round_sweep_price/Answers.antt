use Rattle.std.proofs.Common.{arith, ◌∙◌}
use Rattle.shape_price.proofs.SweepPrices.{round_price_none, round_price_is}
use Rattle.shape_price.proofs.sweep.round_sweep_price.Goals as goal

pub returns-then-n-eq0 : goal.returns-then-n-eq0
returns-then-n-eq0 c = λ ss h. round_price_none ss (h ∙ c.if-n-eq0.true)

pub returns : goal.returns
returns c = λ ss h. round_price_is ss c.args.n h (omega arith)
