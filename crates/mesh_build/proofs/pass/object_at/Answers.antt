use Rattle.std.proofs.Common.{arith, le_refl}
use Rattle.mesh_progress.proofs.Pass.Adding.{record_inside, drawn_is, drew_behind, can_draw, can_advance, added_object}
use Rattle.mesh_build.proofs.pass.object_at.Goals as goal

pub draw_object-d-requires : goal.draw_object-d-requires
draw_object-d-requires c = can_draw c.requires c.header_at-h.ensures

pub put_span-requires : goal.put_span-requires
put_span-requires c = let v = can_advance c.requires c.header_at-h.ensures _ (drawn_is c.draw_object-d.ensures) in
    (v.vertices, v.kept)

pub advance-requires : goal.advance-requires
advance-requires c = can_advance c.requires c.header_at-h.ensures _ (drawn_is c.draw_object-d.ensures)

pub returns : goal.returns
returns c = let a = c.args in
    let s = c.starts_in-at.ensures in
    added_object a.limit a.s.now a.p a.vs.now a.ns.now a.is.now a.spans.now a.account.now a.log.now c.header_at-h.ensures
    (drew_behind a.limit _ a.p a.vs.now a.ns.now a.is.now a.log.now s.vertices.0 s.normals.0 s.indices.0 s.log.0 c.draw_object-d.ensures)
    c.put_span.ensures c.put_account.ensures c.advance.ensures

pub header_at-h-requires : goal.header_at-h-requires
header_at-h-requires c = record_inside c.requires

pub offset_bounds-vs-v : goal.offset_bounds-vs-v
offset_bounds-vs-v c = record { fits = omega arith }

pub slice_bounds-draw_object-count : goal.slice_bounds-draw_object-count
slice_bounds-draw_object-count c = c.starts_in-at.ensures.vertices.1

pub slice_bounds-draw_object-start : goal.slice_bounds-draw_object-start
slice_bounds-draw_object-start c = c.starts_in-at.ensures.vertices.1

pub slice_bounds-draw_object-end : goal.slice_bounds-draw_object-end
slice_bounds-draw_object-end c = le_refl _

pub offset_bounds-ns-n : goal.offset_bounds-ns-n
offset_bounds-ns-n c = record { fits = omega arith }

pub slice_bounds-draw_object-count-2 : goal.slice_bounds-draw_object-count-2
slice_bounds-draw_object-count-2 c = c.starts_in-at.ensures.normals.1

pub slice_bounds-draw_object-start-2 : goal.slice_bounds-draw_object-start-2
slice_bounds-draw_object-start-2 c = c.starts_in-at.ensures.normals.1

pub slice_bounds-draw_object-end-2 : goal.slice_bounds-draw_object-end-2
slice_bounds-draw_object-end-2 c = le_refl _

pub offset_bounds-is-k : goal.offset_bounds-is-k
offset_bounds-is-k c = record { fits = omega (arith, c.well_formed.1.1.1.1.1.0) }

pub slice_bounds-draw_object-count-3 : goal.slice_bounds-draw_object-count-3
slice_bounds-draw_object-count-3 c = c.starts_in-at.ensures.indices.1

pub slice_bounds-draw_object-start-3 : goal.slice_bounds-draw_object-start-3
slice_bounds-draw_object-start-3 c = c.starts_in-at.ensures.indices.1

pub slice_bounds-draw_object-end-3 : goal.slice_bounds-draw_object-end-3
slice_bounds-draw_object-end-3 c = le_refl _

pub offset_bounds-log-e : goal.offset_bounds-log-e
offset_bounds-log-e c = record { fits = omega (arith, c.well_formed.1.1.1.1.1.1.1.1.0) }

pub slice_bounds-draw_object-count-4 : goal.slice_bounds-draw_object-count-4
slice_bounds-draw_object-count-4 c = c.starts_in-at.ensures.log.1

pub slice_bounds-draw_object-start-4 : goal.slice_bounds-draw_object-start-4
slice_bounds-draw_object-start-4 c = c.starts_in-at.ensures.log.1

pub slice_bounds-draw_object-end-4 : goal.slice_bounds-draw_object-end-4
slice_bounds-draw_object-end-4 c = le_refl _
