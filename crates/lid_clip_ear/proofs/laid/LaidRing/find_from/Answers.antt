use Rattle.lists.proofs.Loops.{first_found, first_next, first_end}
use Rattle.lid_clip_ear.proofs.laid.LaidRing.find_from.Goals as goal

pub returns-then-not-clear_at : goal.returns-then-not-clear_at
returns-then-not-clear_at c = first_found _ _ _ _ c.loop-k-test.true (rw (← c.clear_at.ensures, c.if-not-clear_at.true)) c.loop-k.invariant

pub loop-k-preserved : goal.loop-k-preserved
loop-k-preserved c = first_next _ _ _ _ c.loop-k-test.true (rw (← c.clear_at.ensures, c.if-not-clear_at.false)) c.loop-k.invariant

pub returns : goal.returns
returns c = first_end _ _ _ _ c.loop-k-test.false c.loop-k.invariant
