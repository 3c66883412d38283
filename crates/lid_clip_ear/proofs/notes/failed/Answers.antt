use Rattle.std.proofs.Common.{arith, le-ltb, lt-ltb, ◌+◌}
use Rattle.lid_clip_ear.specs.Contract.Notes.{failed_at}
use Rattle.lid_clip_ear.proofs.notes.failed.Goals as goal

pub returns-then-k-lt2147483646 : goal.returns-then-k-lt2147483646
unfolding failed_at
returns-then-k-lt2147483646 c = rw (lt-ltb (c.args.at.0 + 1) 2147483647 (omega arith)) (omega arith)

pub returns : goal.returns
unfolding failed_at
returns c = rw (le-ltb (c.args.at.0 + 1) 2147483647 (omega arith))
