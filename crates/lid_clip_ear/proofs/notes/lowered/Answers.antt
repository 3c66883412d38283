use Rattle.std.proofs.Common.{le-ltb, lt-ltb}
use Rattle.lid_clip_ear.specs.Contract.Notes.{down}
use Rattle.lid_clip_ear.proofs.notes.lowered.Goals as goal

pub returns-then-low-q : goal.returns-then-low-q
unfolding down
returns-then-low-q c = rw (lt-ltb _ _ c.if-low-q.true)

pub returns : goal.returns
unfolding down
returns c = rw (le-ltb _ _ c.if-low-q.false)
