use Rattle.std.proofs.Common.{length, ◌-◌}
use Rattle.lid_flat.specs.Flats.{flats_in}
use Rattle.lid_clip.proofs.HeldRun.{Running}
use Rattle.lid_clip.proofs.clip_held.Given as goal

abbrev pub invariant-loop-s : goal.invariant-loop-s
invariant-loop-s l =
    Running (flats_in l.polygon) l.initial.ring l.initial.log l.n l.initial.triangles l.ring l.rxs l.rys l.why l.log l.triangles l.from l.known l.entries l.count

abbrev pub decreases-loop-s : goal.decreases-loop-s
decreases-loop-s l = length l.initial.ring - l.from
