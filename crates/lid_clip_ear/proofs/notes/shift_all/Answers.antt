use Rattle.std.proofs.Common.{arith}
use Rattle.lid_clip_ear.proofs.NoteLaws.{sweep_start, sweep_again, sweep_map}
use Rattle.lid_clip_ear.specs.Contract.Notes.{moved_by}
use Rattle.lid_clip_ear.proofs.notes.shift_all.Goals as goal

pub loop-q-init : goal.loop-q-init
loop-q-init c = sweep_start _ _

pub loop-q-preserved : goal.loop-q-preserved
unfolding moved_by
loop-q-preserved c = sweep_again _ _ c.loop-q.why c.loop-q.q-index _ (omega arith) c.loop-q.invariant (rw (← c.lowered.ensures) c.lowered-in-loop-q.ensures)

pub returns : goal.returns
returns c = sweep_map _ _ _ c.loop-q.q-index (omega arith) c.loop-q.invariant
