use Rattle.std.proofs.Common.{length, ◌-◌, ◌≡◌}
use Rattle.lid.specs.Bridges.{first_hit}
use Rattle.lid_flat.specs.Flats.{flats_in}
use Rattle.lid_bridge.specs.Contract.Hits.{hit_from}
use Rattle.lid_bridge.proofs.ray.first_hit.Given as goal

abbrev pub invariant-loop-k : goal.invariant-loop-k
invariant-loop-k l = hit_from (flats_in l.polygon) l.ring l.m l.k l.h ≡ first_hit (flats_in l.polygon) l.ring l.m

abbrev pub decreases-loop-k : goal.decreases-loop-k
decreases-loop-k l = length l.ring - l.k
