use Rattle.std.proofs.Common.{length, ◌-◌, ◌≡◌}
use Rattle.lid.specs.Bridges.{is_copy}
use Rattle.lid_flat.specs.Flats.{flats_in}
use Rattle.lists.specs.Loops.{first}
use Rattle.lid_bridge.proofs.find_copy.Given as goal

abbrev pub invariant-loop-k : goal.invariant-loop-k
invariant-loop-k l = (first (is_copy (flats_in l.polygon) l.ring l.m l.c.0) (length l.ring - l.k) l.k ≡ first (is_copy (flats_in l.polygon) l.ring l.m l.c.0) (length l.ring) 0)
