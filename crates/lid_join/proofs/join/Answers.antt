use Rattle.std.proofs.Common.{length, length-take-le, sym, ◌+◌}
use Rattle.lid_join.proofs.JoinLaws.{front_fits, joint_low, joint_fits, join_at, join_none}
use Rattle.lid_flat.specs.Flats.{flats_in}
use Rattle.lid_join.proofs.join.Goals as goal

pub slice_bounds-bridge-end : goal.slice_bounds-bridge-end
slice_bounds-bridge-end c = let a = c.args in front_fits (flats_in a.polygon) a.ring.now a.hole.now a.m c.requires

pub slice_bounds-bridge-end-2 : goal.slice_bounds-bridge-end-2
slice_bounds-bridge-end-2 c = let a = c.args in sym (length-take-le a.m a.ring.now (front_fits (flats_in a.polygon) a.ring.now a.hole.now a.m c.requires))

pub overflow_cast-t : goal.overflow_cast-t
overflow_cast-t c = let a = c.args in record { fits = (joint_low (flats_in a.polygon) a.ring.now a.hole.now a.m c.requires c.bridge.result c.bridge.ensures c.in-Some.b c.in-Some.is).0 }

pub overflow_cast-j : goal.overflow_cast-j
overflow_cast-j c = let a = c.args in record { fits = (joint_low (flats_in a.polygon) a.ring.now a.hole.now a.m c.requires c.bridge.result c.bridge.ensures c.in-Some.b c.in-Some.is).1 }

pub slice_bounds-splice-end : goal.slice_bounds-splice-end
slice_bounds-splice-end c = c.requires.1

pub slice_bounds-splice-end-in-Some : goal.slice_bounds-splice-end-in-Some
slice_bounds-splice-end-in-Some c = let a = c.args in sym (length-take-le (a.m + length a.hole.now + 2) a.ring.now c.requires.1)

pub splice-requires : goal.splice-requires
splice-requires c = let a = c.args in
    let r = joint_fits (flats_in a.polygon) a.ring.now a.hole.now a.m c.requires c.bridge.result c.bridge.ensures c.in-Some.b c.in-Some.is in
    record { hole_in_bounds = r.0; j_in_bounds = r.1 }

pub returns-in-Some : goal.returns-in-Some
returns-in-Some c = let a = c.args in
    join_at (flats_in a.polygon) a.ring.now a.hole.now a.m c.requires c.bridge.result c.bridge.ensures c.in-Some.b c.in-Some.is a.log.now c.put_entry.new.log a.g a.n c.splice.new.ring c.splice.ensures c.splice.auto.ring c.put_entry.ensures

pub returns-in-None : goal.returns-in-None
returns-in-None c = let a = c.args in
    join_none (flats_in a.polygon) a.ring.now a.hole.now a.m c.requires c.bridge.result c.bridge.ensures c.in-None.is a.log.now c.put_entry-in-None.new.log a.g a.n c.put_entry-in-None.ensures
