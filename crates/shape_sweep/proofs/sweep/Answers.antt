-- `shape_sweep::sweep` meets its contract: the faces drawn are those between the first k sections, and then the caps. Assumes nothing.
use Rattle.std.proofs.Common.{ap, arith, ◌*◌, ◌+◌, ◌-◌, ◌<◌, ◌∙◌, ◌≡◌}
use Rattle.lists.specs.Loops.{list, sum_of}
use Rattle.face.specs.Faces.{fan, quad}
use Rattle.face.proofs.Canvases.{draws_none, draws_countable}
use Rattle.face.proofs.Draws.{countable_less}
use Rattle.scene_field.specs.Fields.{section_at, sections_at}
use Rattle.shape.specs.Shapes.{pair_faces, pairs, cap}
use Rattle.shape.proofs.Canvases.{drawn_nothing}
use Rattle.shape_section.proofs.Neighbours.{pair_drawn, second_in}
use Rattle.shape_sweep.proofs.SweepFaces.{pair_points, pair_triangles, sweep_drawn, sweep_none}
use Rattle.shape_sweep.proofs.sweep.Goals as goal

pub returns-then-n-eq0 : goal.returns-then-n-eq0
returns-then-n-eq0 c = let a = c.args in rw (sweep_none a.s.now a.at a.n c.if-n-eq0.true) drawn_nothing

pub loop-k-init : goal.loop-k-init
unfolding pairs sections_at list
loop-k-init c = let a = c.args in
    let e : a.at ≡ a.at + 48 * (1 - 1) = omega arith in
    (c.section_at-first.ensures ∙ ap (section_at a.s.now) e, draws_none, countable_less c.requires.1 (omega arith) (omega arith))

pub pair-requires : goal.pair-requires
pair-requires c = countable_less c.loop-k.invariant.2 (omega arith) (omega arith)

pub loop-k-preserved : goal.loop-k-preserved
unfolding sections_at
loop-k-preserved c = let a = c.args in
    let l = c.loop-k in
    let p = c.pair.ensures in
    let b = c.section_at-b in
    let here : a.at + 48 * l.k ≡ a.at + 48 * (l.k + 1 - 1) = omega arith in (
      b.ensures ∙ ap (section_at a.s.now) here,
      pair_drawn pair_faces (λ k. section_at a.s.now (a.at + 48 * k)) l.k l.auto.k l.invariant.1 l.invariant.0 b.ensures p,
      draws_countable l.invariant.2 p (omega (arith, pair_points l.a b.result)) (omega (arith, pair_triangles l.a b.result)),
    )

pub cap-requires : goal.cap-requires
cap-requires c = countable_less c.loop-k.invariant.2 (omega arith) (omega arith)

pub cap-requires-2 : goal.cap-requires-2
unfolding cap quad fan list sum_of
cap-requires-2 c = draws_countable c.loop-k.invariant.2 c.cap.ensures (omega arith) (omega arith)

pub returns : goal.returns
returns c = let a = c.args in
    let l = c.loop-k in
    let some : 0 < a.n = omega arith in
    let e : l.k ≡ a.n = omega arith in
    let last : l.a ≡ section_at a.s.now (a.at + 48 * (a.n - 1)) = rw e at l.invariant.0 in
    sweep_drawn a.s.now a.at a.n some c.end_places-p.ensures c.section_at-first.ensures last c.point_at.ensures c.point_at-2.ensures c.sub.ensures c.sub-2.ensures (rw e at l.invariant.1) c.cap.ensures c.cap-2.ensures

pub point_at-requires : goal.point_at-requires
point_at-requires c = let some : 0 < c.args.n = omega arith in omega (arith, second_in _ some c.end_places-p.ensures c.requires.0)
