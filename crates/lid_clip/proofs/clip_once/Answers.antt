use Rattle.std.proofs.Common.{arith, sym, ◌∙◌}
use Rattle.lid_flat.specs.Flats.{flats_in}
use Rattle.lid_clip_ear.proofs.TestLaws.{order_long}
use Rattle.lid_clip.proofs.ClipRun.{step_in, step_over}
use Rattle.lid_clip.proofs.HeldLaws.{none_after, takes_cut, takes_none}
use Rattle.lid_clip.proofs.clip_once.Goals as goal

pub clip_step-requires : goal.clip_step-requires
clip_step-requires c = let h = c.requires.held in record { why_len = h.long; in_ring_order = h.in_order; known = h.notes }

pub returns-in_err-cut : goal.returns-in_err-cut
returns-in_err-cut c = let a = c.args in
    rw c.from_residual.ensures (takes_none (flats_in a.polygon) a.ring.now a.rxs.now a.rys.now _ a.log.now a.n a.triangles.now a.count (sym c.clip_step.ensures.value ∙ c.in_err-cut.was))

pub known_after-m-requires : goal.known_after-m-requires
known_after-m-requires c = let a = c.args in
    (step_in (flats_in a.polygon) a.ring.now _ (sym c.clip_step.ensures.value ∙ c.in_ok-cut.was), c.requires.held.near)

pub corners_at-t-requires : goal.corners_at-t-requires
corners_at-t-requires c = let a = c.args in
    step_in (flats_in a.polygon) a.ring.now _ (sym c.clip_step.ensures.value ∙ c.in_ok-cut.was)

pub take_out-requires : goal.take_out-requires
take_out-requires c = let a = c.args in
    let held = c.requires.held in
    let s = c.clip_step in
    let k = c.known_after-m in
    let fs = flats_in a.polygon in
    let long = order_long fs a.ring.now a.rxs.now a.rys.now held.in_order in
    let step = sym s.ensures.value ∙ c.in_ok-cut.was in
    let why_long = s.auto.why ∙ held.long in
    let within = step_in fs a.ring.now _ step in
    record { at_in_bounds = (within, omega (arith, within, long.0), omega (arith, within, long.1)); at_lt_known = (k.ensures.1, omega (arith, k.ensures.2, why_long)); none_from = none_after fs a.ring.now a.rxs.now a.rys.now a.why.now a.known held _ step s.new.why s.ensures.known_2 s.ensures.why_after why_long k.result k.ensures.0 }

pub put_cut-requires : goal.put_cut-requires
put_cut-requires c = let a = c.args in
    omega (arith, step_over (flats_in a.polygon) a.ring.now _ (sym c.clip_step.ensures.value ∙ c.in_ok-cut.was), c.requires.ring_bound)

pub shape_of-why : goal.shape_of-why
shape_of-why c = c.take_out.auto.why ∙ c.clip_step.auto.why

pub returns : goal.returns
returns c = let a = c.args in
    let held = c.requires.held in
    let s = c.clip_step in
    let k = c.known_after-m in
    let o = c.take_out in
    let w = c.put_cut in
    let fs = flats_in a.polygon in
    takes_cut fs a.ring.now a.rxs.now a.rys.now a.why.now a.known held _ (sym s.ensures.value ∙ c.in_ok-cut.was) s.new.why s.ensures.known_2 s.ensures.why_after (s.auto.why ∙ held.long) k.result k.ensures.0 k.ensures.1 k.ensures.2 _ _ _ _ o.ensures.place_removed.0 o.ensures.place_removed.1 o.ensures.place_removed.2 o.ensures.place_forgotten _ c.corners_at-t.ensures a.log.now _ a.n a.triangles.now _ a.count w.result w.ensures

pub overflow_sub-result : goal.overflow_sub-result
overflow_sub-result c = omega (arith, c.known_after-m.ensures.1)
