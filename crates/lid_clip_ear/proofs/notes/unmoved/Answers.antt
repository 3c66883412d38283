use Rattle.std.proofs.Common.{le-ltb, lt-ltb}
use Rattle.lid_clip_ear.specs.Contract.Notes.{capped}
use Rattle.lid_clip_ear.proofs.notes.unmoved.Goals as goal

pub returns-then-i-lt2147483647 : goal.returns-then-i-lt2147483647
unfolding capped
returns-then-i-lt2147483647 c = rw (lt-ltb _ _ c.if-i-lt2147483647.true)

pub returns : goal.returns
unfolding capped
returns c = rw (le-ltb _ _ c.if-i-lt2147483647.false)
