use Rattle.std.proofs.Common.{ap, arith, sym, ℕ, ◌*◌, ◌+◌, ◌∙◌, ◌≡◌}
use Rattle.coords.specs.declared.Point.{Point}
use Rattle.scene_field.specs.Fields.{point_at}
use Rattle.lid_plane.specs.Plane.{area_normal}
use Rattle.lid_plane.specs.Contract.Steps.{area_normal_at}
use Rattle.lists.proofs.Loops.{loop_next, loop_end}
use Rattle.lists.proofs.Places.{next_inside}
use Rattle.lists.specs.Loops.{list, loop}
use Rattle.shape_outline_corners.proofs.AreaLaws.{area_at, area_start}
use Rattle.shape_outline_corners.specs.Contract.Outlines.{points_at}
use Rattle.shape_outline_corners.proofs.Row.area_normal.Goals as goal

pub returns-then-self-eq0 : goal.returns-then-self-eq0
unfolding area_normal points_at list loop
returns-then-self-eq0 c = let a = c.args.self in sym (ap (λ (n : ℕ). area_normal (points_at a.s.now n a.at)) c.if-self-eq0.true)

pub loop-k-init : goal.loop-k-init
loop-k-init c = let a = c.args.self in
    let e : a.at ≡ a.at + 24 * 0 = omega arith in
    (omega arith, area_start a.s.now a.n a.at, λ h. c.point_at-first.ensures ∙ ap (point_at a.s.now) e)

pub loop-k-preserved : goal.loop-k-preserved
loop-k-preserved c = let a = c.args.self in
    let s = a.s.now in
    let l = c.loop-k in
    let h = c.loop-k-test.true in
    let reached = c.point_at-q.ensures ∙ ap (point_at s) c.next_place.ensures.0 in
    let step = c.area_normal_step-sum.ensures ∙ ap (λ (f : Point). area_normal_at f l.p c.point_at-q.result l.sum) c.point_at-first.ensures ∙ area_at s a.n a.at l.k l.sum h (l.invariant.2 h) reached in
    (omega arith, loop_next _ _ _ _ _ _ h step l.invariant.1, λ g. reached ∙ ap (λ (j : ℕ). point_at s (a.at + 24 * j)) (next_inside a.n l.k g))

pub returns : goal.returns
returns c = loop_end _ _ _ _ _ c.loop-k-test.false c.loop-k.invariant.1
