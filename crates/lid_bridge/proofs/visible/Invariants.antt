use Rattle.std.proofs.Common.{length, ◌-◌, ◌≡◌}
use Rattle.lid.specs.Bridges.{seen_at}
use Rattle.lid_flat.specs.Flats.{flats_in}
use Rattle.lists.specs.Loops.{loop}
use Rattle.lid_bridge.proofs.visible.Given as goal

abbrev pub invariant-loop-k : goal.invariant-loop-k
invariant-loop-k l = (loop (seen_at (flats_in l.polygon) l.ring l.ray.m l.ray.i l.ray.end.0 l.ray.s) (length l.ring - l.k) l.k l.best ≡ loop (seen_at (flats_in l.polygon) l.ring l.ray.m l.ray.i l.ray.end.0 l.ray.s) (length l.ring) 0 l.initial.best)
