use Rattle.std.proofs.Common.{false, length, length-take-le, sym, true, ◌∙◌}
use lib.Seq.{length_front}
use Rattle.lid_flat.specs.Flats.{flats_in}
use Rattle.lid_triangulate.proofs.LidLaws.{outer_fits, outer_low, outer_kept, lid_small, lid_open_lem, outer_stands, outer_small}
use Rattle.lid_triangulate.proofs.cut_lid.Goals as goal

pub slice_bounds-write_ring-end : goal.slice_bounds-write_ring-end
slice_bounds-write_ring-end c = let a = c.args in outer_fits a.counts.outer a.counts.holes.now (length a.ring.now) (length a.hole.now) c.requires.buffers_fit

pub slice_bounds-write_ring-end-2 : goal.slice_bounds-write_ring-end-2
slice_bounds-write_ring-end-2 c = let a = c.args in sym (length-take-le a.counts.outer a.ring.now (outer_fits a.counts.outer a.counts.holes.now (length a.ring.now) (length a.hole.now) c.requires.buffers_fit))

pub write_ring-requires : goal.write_ring-requires
write_ring-requires c = let a = c.args in outer_low a.counts.outer a.counts.holes.now a.ring.now (length a.hole.now) c.requires.buffers_fit

pub returns-then-write_ring : goal.returns-then-write_ring
returns-then-write_ring c = let a = c.args in
    let w = c.write_ring in
    lid_small (flats_in a.polygon) a.counts.outer a.counts.holes.now a.log.now c.put_entry.new.log a.triangles.now (outer_small (flats_in a.polygon) a.counts.outer a.ring.now w.result true (outer_fits a.counts.outer a.counts.holes.now (length a.ring.now) (length a.hole.now) c.requires.buffers_fit) w.ensures.value c.if-write_ring.true) c.put_entry.ensures

pub cut_open-requires : goal.cut_open-requires
cut_open-requires c = let a = c.args in
    let w = c.write_ring in
    let kept = length_front a.ring.now w.new.ring a.counts.outer w.auto.ring in
    record { buffers_fit = outer_kept a.counts.outer a.counts.holes.now a.ring.now (length a.hole.now) w.new.ring w.auto.ring c.requires.buffers_fit; rxs_len = (c.requires.rxs_len.0 ∙ sym kept, c.requires.rxs_len.1 ∙ sym kept); ring_value = outer_stands (flats_in a.polygon) a.counts.outer a.ring.now w.new.ring (outer_fits a.counts.outer a.counts.holes.now (length a.ring.now) (length a.hole.now) c.requires.buffers_fit) w.auto.ring w.ensures.ring_after }

pub returns : goal.returns
returns c = let a = c.args in
    let w = c.write_ring in
    let o = c.cut_open in
    lid_open_lem (flats_in a.polygon) a.counts.outer a.counts.holes.now a.log.now o.new.log a.triangles.now o.new.triangles o.result (outer_small (flats_in a.polygon) a.counts.outer a.ring.now w.result false (outer_fits a.counts.outer a.counts.holes.now (length a.ring.now) (length a.hole.now) c.requires.buffers_fit) w.ensures.value c.if-write_ring.false) o.ensures
