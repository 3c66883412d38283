-- `shape_round_sweep::round_sweep` meets its contract: the tube drawn is the one through the first k ellipses, and then the caps. Assumes nothing.
use Rattle.std.proofs.Common.{ap, arith, length, ℕ, ◌*◌, ◌+◌, ◌-◌, ◌<◌, ◌∙◌, ◌≡◌}
use Rattle.lists.specs.Loops.{list, sum_of}
use Rattle.face.specs.Faces.{fan}
use Rattle.face.proofs.Canvases.{draws_none, draws_part, draws_countable}
use Rattle.face.proofs.Draws.{countable_less}
use Rattle.scene_field.specs.Fields.{section_at, sections_at}
use Rattle.shape.specs.Shapes.{Ellipse, pairs, ellipse, end_face}
use Rattle.shape.proofs.Canvases.{drawn_nothing}
use Rattle.shape_section.proofs.Neighbours.{second_in}
use Rattle.shape_round_sweep.specs.Contract.Rings.{ellipse_of}
use Rattle.shape_round_sweep.proofs.RingFaces.{tube_points, tube_triangles, tube_drawn, ring_size, round_none, round_drawn}
use Rattle.shape_round_sweep.proofs.round_sweep.Goals as goal

pub returns-then-n-eq0 : goal.returns-then-n-eq0
returns-then-n-eq0 c = let a = c.args in rw (round_none a.s.now a.at a.n c.if-n-eq0.true) drawn_nothing

pub loop-k-init : goal.loop-k-init
unfolding pairs sections_at list
loop-k-init c = let a = c.args in
    let e : a.at ≡ a.at + 48 * (1 - 1) = omega arith in
    (c.inscribed-first.ensures ∙ ap ellipse c.section_at.ensures ∙ ap (λ (p : ℕ). ellipse (section_at a.s.now p)) e, draws_none, countable_less c.requires.1 (omega arith) (omega arith))

pub tube-requires : goal.tube-requires
tube-requires c = countable_less c.loop-k.invariant.2 (omega arith) (omega arith)

pub loop-k-preserved : goal.loop-k-preserved
loop-k-preserved c = let a = c.args in
    let l = c.loop-k in
    let p = c.tube.ensures in
    let y = c.inscribed-b.ensures ∙ ap ellipse c.section_at-in-loop-k.ensures in
    let here : a.at + 48 * l.k ≡ a.at + 48 * (l.k + 1 - 1) = omega arith in (
      y ∙ ap (λ (o : ℕ). ellipse (section_at a.s.now o)) here,
      tube_drawn a.s.now a.at l.k l.auto.k l.invariant.1 l.invariant.0 y p,
      draws_countable l.invariant.2 p (omega (arith, tube_points (ellipse_of l.a) (ellipse_of c.inscribed-b.result))) (omega (arith, tube_triangles (ellipse_of l.a) (ellipse_of c.inscribed-b.result))),
    )

pub end-requires : goal.end-requires
end-requires c = countable_less c.loop-k.invariant.2 (omega arith) (omega arith)

pub end-requires-2 : goal.end-requires-2
unfolding end_face fan list sum_of
end-requires-2 c =
    let h = ap (λ (e : Ellipse). length e.ring) (c.inscribed-first.ensures ∙ ap ellipse c.section_at.ensures) ∙ ring_size _ in
    draws_countable c.loop-k.invariant.2 (draws_part 4 c.end.ensures) (omega (arith, h)) (omega (arith, h))

pub returns : goal.returns
returns c = let a = c.args in
    let l = c.loop-k in
    let some : 0 < a.n = omega arith in
    let e : l.k ≡ a.n = omega arith in
    let last : ellipse_of l.a ≡ ellipse (section_at a.s.now (a.at + 48 * (a.n - 1))) = rw e at l.invariant.0 in
    round_drawn a.s.now a.at a.n some c.end_places-p.ensures (c.inscribed-first.ensures ∙ ap ellipse c.section_at.ensures) last c.centre_at.ensures c.centre_at-2.ensures c.sub-start_out.ensures c.sub-end_out.ensures (rw e at l.invariant.1) c.end.ensures c.end-2.ensures

pub centre_at-requires : goal.centre_at-requires
centre_at-requires c = let some : 0 < c.args.n = omega arith in second_in _ some c.end_places-p.ensures c.requires.0
