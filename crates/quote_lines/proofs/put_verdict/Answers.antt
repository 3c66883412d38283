-- `quote_lines::put_verdict` meets its contract: one of two lines. Assumes nothing.
use Rattle.std.proofs.Common.{arith}
use Rattle.quote_lines.specs.Lines.{verdict_line}
use Rattle.quote_lines.proofs.put_verdict.Goals as goal

pub returns-then-ok : goal.returns-then-ok
unfolding verdict_line
returns-then-ok c = let w = c.put_word.ensures in (rw c.if-ok.true w, omega (arith, w.wrote.place))

pub returns-else-ok : goal.returns-else-ok
unfolding verdict_line
returns-else-ok c = let w = c.put_word-else-ok.ensures in (rw c.if-ok.false w, omega (arith, w.wrote.place))
