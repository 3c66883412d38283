use Rattle.std.proofs.Common.{List, ap, ap₂, arith, sym, ℕ, ◌*◌, ◌+◌, ◌∙◌, ◌≡◌}
use Rattle.lists.specs.Loops.{list, loop, fold}
use Rattle.lists.proofs.Loops.{loop_next, loop_end, fold_start, fold_next, fold_end}
use Rattle.lists.proofs.Places.{next_inside}
use Rattle.coords_vector.specs.Vectors.{zero_v}
use Rattle.scene_field.specs.Fields.{corner_at, corners_at}
use Rattle.lid_plane.specs.Plane.{tops_of, area_normal, rise_step, rise, lid_normal}
use Rattle.lid_plane.specs.Contract.Steps.{lid_normal_from}
use Rattle.lid_plane.proofs.PlaneLaws.{normal_from_lem}
use Rattle.shape_outline_corners.proofs.CornerLaws.{tops_points}
use Rattle.shape_outline_corners.proofs.AreaLaws.{area_start, tops_at}
use Rattle.shape_outline_corners.proofs.Row.lid_normal.Goals as goal

-- without corners the sums are zero
none : (s : List ℕ) (at n : ℕ) → n ≡ 0 → lid_normal_from zero_v zero_v ≡ lid_normal (corners_at s n at)
unfolding corners_at list tops_of area_normal loop rise fold
none s at n e = normal_from_lem (corners_at s 0 at) ∙ sym (ap (λ (m : ℕ). lid_normal (corners_at s m at)) e)

pub returns-then-self-eq0 : goal.returns-then-self-eq0
returns-then-self-eq0 c = let a = c.args.self in c.lid_normal_from.ensures ∙ none a.s.now a.at a.n c.if-self-eq0.true

pub loop-k-init : goal.loop-k-init
unfolding rise corners_at
loop-k-init c = let a = c.args.self in
    let s = a.s.now in
    let e : a.at ≡ a.at + 24 * 0 = omega arith in
    (omega arith, area_start s a.n (a.at + 12), fold_start rise_step (λ j. corner_at s (a.at + 24 * j)) a.n zero_v, λ h. c.corner_at-a.ensures ∙ ap (corner_at s) e)

pub loop-k-preserved : goal.loop-k-preserved
loop-k-preserved c = let a = c.args.self in
    let s = a.s.now in
    let l = c.loop-k in
    let h = c.loop-k-test.true in
    let reached = c.corner_at-b.ensures ∙ ap (corner_at s) c.next_place.ensures.0 in
    let area = c.area_normal_step-area.ensures ∙ tops_at s a.n a.at l.k l.area h c.corner_at-a.ensures (l.invariant.3 h) reached in
    let rises = c.rise_step-rise.ensures ∙ ap (rise_step l.rise) (l.invariant.3 h) in
    (omega arith, loop_next _ _ _ _ _ _ h area l.invariant.1, fold_next rise_step (λ j. corner_at s (a.at + 24 * j)) a.n l.k l.rise _ _ h rises l.invariant.2, λ g. reached ∙ ap (λ (j : ℕ). corner_at s (a.at + 24 * j)) (next_inside a.n l.k g))

pub returns : goal.returns
returns c = let a = c.args.self in
    let s = a.s.now in
    let l = c.loop-k in
    let done = c.loop-k-test.false in
    let area = loop_end _ _ _ _ _ done l.invariant.1 ∙ ap area_normal (sym (tops_points s a.n a.at)) in
    let rises = fold_end rise_step (λ j. corner_at s (a.at + 24 * j)) a.n l.k l.rise _ done l.invariant.2 in
    c.lid_normal_from-2.ensures ∙ ap₂ lid_normal_from area rises ∙ normal_from_lem (corners_at s a.n a.at)
