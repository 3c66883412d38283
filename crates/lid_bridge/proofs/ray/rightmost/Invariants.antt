use Rattle.std.proofs.Common.{length, ◌-◌, ◌<◌, ◌≡◌}
use Rattle.lid.specs.Bridges.{rightmost_step, rightmost}
use Rattle.lid_flat.specs.Flats.{flats_in}
use Rattle.lists.specs.Loops.{loop}
use Rattle.lid_bridge.proofs.ray.rightmost.Given as goal

abbrev pub invariant-loop-k : goal.invariant-loop-k
invariant-loop-k l = (l.best.0 < length l.hole) × (loop (rightmost_step (flats_in l.polygon) l.hole) (length l.hole - l.k) l.k l.best.0 ≡ rightmost (flats_in l.polygon) l.hole)
