use Rattle.std.proofs.Common.{length, ◌-◌, ◌≤◌}
use Rattle.lid_flat.specs.Flats.{flats_in}
use Rattle.lid_bridge.specs.Contract.Hits.{PassedOver}
use Rattle.lid_bridge.proofs.ray.next_met.Given as goal

abbrev pub invariant-loop-k : goal.invariant-loop-k
invariant-loop-k l = (l.start ≤ l.k) × PassedOver (flats_in l.polygon) l.ring l.m l.start l.k

abbrev pub decreases-loop-k : goal.decreases-loop-k
decreases-loop-k l = length l.ring - l.k
