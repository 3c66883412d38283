use Rattle.std.proofs.Common.{length, ◌-◌, ◌≡◌}
use Rattle.lid.specs.Rings.{area_step, area}
use Rattle.lid_flat.specs.Flats.{flats_in}
use Rattle.lists.specs.Loops.{loop}
use Rattle.lid_ring.proofs.area.area.Given as goal

abbrev pub invariant-loop-k : goal.invariant-loop-k
invariant-loop-k l = loop (area_step (flats_in l.polygon) l.ring) (length l.ring - l.k) l.k l.sum ≡ area (flats_in l.polygon) l.ring
