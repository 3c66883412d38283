use Rattle.std.proofs.Common.{arith}
use Rattle.quote_objects.proofs.Lines.{lines_start, record_inside, four_more, next_fits, lines_next, lines_end}
use Rattle.quote_objects.proofs.put_objects.Goals as goal

pub loop-k-init : goal.loop-k-init
loop-k-init c = lines_start c.args.to.now c.requires.0

pub header_at-h-requires : goal.header_at-h-requires
header_at-h-requires c = record_inside c.loop-k.invariant c.loop-k-test.true

pub bounds-account-i : goal.bounds-account-i
bounds-account-i c = omega (arith, four_more c.loop-k.invariant c.loop-k-test.true)

pub bounds-account-i-in-loop-k : goal.bounds-account-i-in-loop-k
bounds-account-i-in-loop-k c = omega (arith, four_more c.loop-k.invariant c.loop-k-test.true)

pub bounds-account-i-in-loop-k-2 : goal.bounds-account-i-in-loop-k-2
bounds-account-i-in-loop-k-2 c = omega (arith, four_more c.loop-k.invariant c.loop-k-test.true)

pub overflow_add-at : goal.overflow_add-at
overflow_add-at c = omega (arith, next_fits c.loop-k.invariant c.loop-k-test.true c.header_at-h.ensures)

pub loop-k-preserved : goal.loop-k-preserved
loop-k-preserved c = lines_next c.loop-k.invariant c.loop-k-test.true c.header_at-h.ensures c.put_object.ensures

pub returns : goal.returns
returns c = lines_end c.loop-k.invariant c.loop-k-test.false
