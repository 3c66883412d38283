use Rattle.std.proofs.Common.{arith}
use Rattle.lid_clip_ear.proofs.NoteLaws.{raised}
use Rattle.lid_clip_ear.proofs.notes.shift_before.Goals as goal

pub returns : goal.returns
returns c = raised _ c.args.why.now _ _ _ _ c.requires (omega arith) c.copy_within.ensures.after c.shift_all.ensures
