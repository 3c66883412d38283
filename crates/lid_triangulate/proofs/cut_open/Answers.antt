use Rattle.std.proofs.Common.{length, length-take-le, sym, ◌∙◌}
use Rattle.lid_triangulate.proofs.LidLaws.{corners_low, counts_fit, order_joins, order_room, order_low, order_fits, order_count, open_draws, joined_fits, joined_in, joined_room, joined_draws}
use Rattle.lid_triangulate.proofs.cut_open.Goals as goal

pub prepare-p-requires : goal.prepare-p-requires
prepare-p-requires c = let fit = c.requires.buffers_fit in
    record { counts_bound = (corners_low _ _ _ _ fit, fit.holes); counts_in_bounds = counts_fit _ _ _ _ fit; counts_in_bounds_2 = fit.holes }

pub slice_bounds-join_holes-end : goal.slice_bounds-join_holes-end
slice_bounds-join_holes-end c = let p = c.prepare-p in sym (length-take-le p.result.holes p.new.order p.ensures.fewer)

pub join_holes-m-requires : goal.join_holes-m-requires
join_holes-m-requires c = let a = c.args in
    let p = c.prepare-p in
    record { counts_bound = corners_low _ _ _ _ c.requires.buffers_fit; each = order_joins _ _ _ _ _ _ _ _ p.ensures (length p.new.hole) p.auto.hole; order_in_bounds = order_fits _ _ _ _ _ _ _ _ p.ensures (length a.ring.now) c.requires.buffers_fit p.auto.order }

pub slice_bounds-room-end : goal.slice_bounds-room-end
slice_bounds-room-end c = let j = c.join_holes-m in
    joined_fits _ _ _ _ _ _ _ _ _ j.ensures.holes_joined

pub slice_bounds-room-end-2 : goal.slice_bounds-room-end-2
slice_bounds-room-end-2 c = let j = c.join_holes-m in
    sym (length-take-le j.result j.new.ring (joined_fits _ _ _ _ _ _ _ _ _ j.ensures.holes_joined))

pub slice_bounds-room-end-3 : goal.slice_bounds-room-end-3
slice_bounds-room-end-3 c = let a = c.args in
    let j = c.join_holes-m in
    joined_in _ _ _ _ _ _ _ _ _ j.ensures.holes_joined (length a.ring.now) (length a.xs.now) j.auto.ring c.requires.rxs_len.0

pub slice_bounds-room-end-4 : goal.slice_bounds-room-end-4
slice_bounds-room-end-4 c = let a = c.args in
    let j = c.join_holes-m in
    sym (length-take-le j.result a.xs.now (joined_in _ _ _ _ _ _ _ _ _ j.ensures.holes_joined (length a.ring.now) (length a.xs.now) j.auto.ring c.requires.rxs_len.0))

pub slice_bounds-room-end-5 : goal.slice_bounds-room-end-5
slice_bounds-room-end-5 c = let a = c.args in
    let j = c.join_holes-m in
    joined_in _ _ _ _ _ _ _ _ _ j.ensures.holes_joined (length a.ring.now) (length a.ys.now) j.auto.ring c.requires.rxs_len.1

pub slice_bounds-room-end-6 : goal.slice_bounds-room-end-6
slice_bounds-room-end-6 c = let a = c.args in
    let j = c.join_holes-m in
    sym (length-take-le j.result a.ys.now (joined_in _ _ _ _ _ _ _ _ _ j.ensures.holes_joined (length a.ring.now) (length a.ys.now) j.auto.ring c.requires.rxs_len.1))

pub slice_bounds-room-end-7 : goal.slice_bounds-room-end-7
slice_bounds-room-end-7 c = let a = c.args in
    let p = c.prepare-p in
    let j = c.join_holes-m in
    joined_in _ _ _ _ _ _ _ _ _ j.ensures.holes_joined (length a.ring.now) (length j.new.hole) j.auto.ring (j.auto.hole ∙ p.auto.hole ∙ c.requires.buffers_fit.same)

pub slice_bounds-room-end-8 : goal.slice_bounds-room-end-8
slice_bounds-room-end-8 c = let a = c.args in
    let p = c.prepare-p in
    let j = c.join_holes-m in
    sym (length-take-le j.result j.new.hole (joined_in _ _ _ _ _ _ _ _ _ j.ensures.holes_joined (length a.ring.now) (length j.new.hole) j.auto.ring (j.auto.hole ∙ p.auto.hole ∙ c.requires.buffers_fit.same)))

pub overflow_add-p : goal.overflow_add-p
overflow_add-p c = let a = c.args in
    let p = c.prepare-p in
    record { fits = order_low _ _ _ _ _ _ _ _ p.ensures (length a.ring.now) c.requires.buffers_fit p.auto.order }

pub cut_ring-requires : goal.cut_ring-requires
cut_ring-requires c = let a = c.args in
    let p = c.prepare-p in
    let j = c.join_holes-m in
    let r = joined_room _ _ _ _ _ _ _ _ _ j.ensures.holes_joined p.result.holes (length a.ring.now) a.xs.now a.ys.now j.new.hole j.auto.ring c.requires.rxs_len.0 c.requires.rxs_len.1 (j.auto.hole ∙ p.auto.hole ∙ c.requires.buffers_fit.same) (order_room _ _ _ _ _ _ _ _ p.ensures (length a.ring.now) c.requires.buffers_fit p.auto.order) in
    record { ring_bound = r.0; rxs_len = r.1 }

pub shape_of-log : goal.shape_of-log
shape_of-log c = c.cut_ring.auto.log ∙ c.join_holes-m.auto.log ∙ c.prepare-p.auto.log

pub returns : goal.returns
returns c = let a = c.args in
    let p = c.prepare-p in
    let j = c.join_holes-m in
    let r = c.cut_ring in
    open_draws _ _ _ _ _ _ _ _ p.ensures a.ring.now r.new.log a.triangles.now r.new.triangles r.result c.requires.ring_value
    (joined_draws _ _ _ _ _ _ _ _ _ j.ensures.holes_joined r.new.log a.triangles.now r.new.triangles p.result.holes r.result (order_count _ _ _ _ _ _ _ _ p.ensures) r.ensures)
