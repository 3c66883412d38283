use Rattle.lid_clip_ear.proofs.NoteLaws.{Sweep}
use Rattle.lid_clip_ear.specs.Contract.Notes.{moved_by}
use Rattle.lid_clip_ear.proofs.notes.shift_all.Given as goal

abbrev pub invariant-loop-q : goal.invariant-loop-q
invariant-loop-q l = Sweep (moved_by l.low) l.initial.why l.why l.q-index
