use Rattle.shape_outline.proofs.OutlineLaws.{made}
use Rattle.shape_outline.proofs.outline_at.Goals as goal

pub returns-then-closed : goal.returns-then-closed
returns-then-closed c = let a = c.args in
    made a.s.now a.i a.closed a.outer a.holes a.corners _ _ c.lid_normal.ensures (rw c.if-closed.true c.has_height.ensures)

pub returns-else-closed : goal.returns-else-closed
returns-else-closed c = let a = c.args in
    made a.s.now a.i a.closed a.outer a.holes a.corners _ _ c.lid_normal.ensures (rw c.if-closed.false)
