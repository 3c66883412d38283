use Rattle.lid_flat.specs.Flats.{flats_in}
use Rattle.lid_clip_ear.proofs.EarLaws.{Looking}
use Rattle.lid_clip_ear.proofs.find_ear.Given as goal

abbrev pub invariant-loop-i : goal.invariant-loop-i
invariant-loop-i l = Looking (flats_in l.polygon) l.laid.ring.now l.initial.why l.why l.i
