use Rattle.std.proofs.Common.{length}
use Rattle.lid_flat.specs.Flats.{flats_in}
use Rattle.lid_ring.proofs.RingLaws.{ring_small}
use Rattle.lid_ring.proofs.write_ring.Goals as goal

pub returns-then-a-outer-clause-value : goal.returns-then-a-outer-clause-value
returns-then-a-outer-clause-value c = let a = c.args in
    ring_small (flats_in a.polygon) a.outer a.from (length a.ring.now) c.fill.new.ring c.area-a.result c.fill.ensures c.area-a.ensures c.abs.result c.abs.ensures

pub returns-else-a-outer-clause-value : goal.returns-else-a-outer-clause-value
returns-else-a-outer-clause-value c = let a = c.args in
    ring_small (flats_in a.polygon) a.outer a.from (length a.ring.now) c.fill.new.ring c.area-a.result c.fill.ensures c.area-a.ensures c.abs.result c.abs.ensures
