-- `quote_summary::sum_up` meets its contract: the working buffers are as long as the room for 4,096 bytes. Assumes nothing.
use Rattle.std.proofs.Common.{rules}
use Rattle.quote_summary.proofs.Judging.{room_is, summed}
use Rattle.quote_summary.proofs.sum_up.Goals as goal

pub returns : goal.returns
returns c = summed _ _ c.requires (room_is c.args.account.now (search rules)) c.build_and_validate-r.ensures.same c.from.ensures c.summary_of.ensures
