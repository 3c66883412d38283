use Rattle.std.proofs.Common.{length, refl}
use Rattle.lid_flat.specs.Flats.{flats_in}
use Rattle.lid_cut.proofs.CutLaws.{clip_room, left_in, rest_room, cut_draws}
use Rattle.lid_cut.proofs.cut_ring.Goals as goal

pub clip-c-requires : goal.clip-c-requires
clip-c-requires c = let a = c.args in
    record { ring_bound = clip_room a.n (length a.room.ring.now) c.requires.ring_bound; rxs_len = c.requires.rxs_len }

pub overflow_sub-first : goal.overflow_sub-first
overflow_sub-first c = let a = c.args in
    let k = c.clip-c in
    left_in (flats_in a.polygon) a.room.ring.now k.new.ring a.log.now k.new.log a.n a.triangles.now k.new.triangles k.result k.ensures k.auto.ring

pub put_rest-requires : goal.put_rest-requires
put_rest-requires c = let a = c.args in
    let k = c.clip-c in
    rest_room (flats_in a.polygon) a.room.ring.now k.new.ring a.log.now k.new.log a.n a.triangles.now k.new.triangles k.result k.ensures k.auto.ring c.requires.ring_bound

pub returns : goal.returns
returns c = let a = c.args in
    let k = c.clip-c in
    let w = c.put_rest in
    cut_draws (flats_in a.polygon) a.room.ring.now k.new.ring a.log.now k.new.log a.n a.triangles.now k.new.triangles k.result k.ensures k.auto.ring w.new.log w.new.triangles _ w.result refl w.ensures
