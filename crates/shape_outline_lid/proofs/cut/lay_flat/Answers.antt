use Rattle.std.proofs.Common.{ap, ap₂, arith, drop, drop-set-lt, length, length-set, refl, set, ℕ, ◌*◌, ◌+◌, ◌∙◌, ◌≡◌, ◌≤◌}
use Rattle.coords.specs.declared.Point.{Point}
use Rattle.lid_plane.specs.Contract.Steps.{flat_on}
use Rattle.lid.specs.declared.Flat.{Flat}
use Rattle.lists.specs.Loops.{list}
use Rattle.scene_field.specs.Fields.{point_at}
use Rattle.shape_outline_lid.proofs.FillLaws.{front_end, first_next, second_next}
use Rattle.shape_outline_lid.proofs.FlatLaws.{laid_flat}
use Rattle.shape_outline_lid.proofs.cut.lay_flat.Goals as goal

pub loop-k-init : goal.loop-k-init
unfolding list
loop-k-init c = (omega arith, refl, refl, refl, refl)

pub loop-k-preserved : goal.loop-k-preserved
loop-k-preserved c = let a = c.args in
    let s = a.row.s.now in
    let l = c.loop-k in
    let e1 = c.first_axis-e1.result in
    let e2 = c.cross-e2.result in
    let flat : ℕ → Flat = λ j. flat_on (point_at s a.row.at) e1 e2 (point_at s (a.row.at + 24 * j)) in
    let e = c.flat_corner-f.ensures ∙ ap₂ (λ (o p : Point). flat_on o e1 e2 p) c.point_at.ensures c.point_at-in-loop-k.ensures in
    let below = c.loop-k-test.true in
    let fits : 2 * a.row.n ≤ length l.work = omega (arith, l.invariant.1, c.requires.1) in (
      omega arith,
      simp length-set l.invariant.1,
      first_next (λ j. (flat j).x) (λ j. (flat j).y) l.work a.row.n l.k _ _ below fits (ap (λ (f : Flat). f.x) e) l.invariant.2,
      second_next (λ j. (flat j).x) (λ j. (flat j).y) l.work a.row.n l.k _ _ below fits (ap (λ (f : Flat). f.y) e) l.invariant.3,
      drop-set-lt (2 * a.row.n) (set l.work l.k _) (a.row.n + l.k) _ (omega arith) ∙ drop-set-lt (2 * a.row.n) l.work l.k _ (omega arith) ∙ l.invariant.4,
    )

pub returns : goal.returns
returns c = let a = c.args in
    let s = a.row.s.now in
    let l = c.loop-k in
    let flat : ℕ → Flat = λ j. flat_on (point_at s a.row.at) c.first_axis-e1.result c.cross-e2.result (point_at s (a.row.at + 24 * j)) in
    let end : l.k ≡ a.row.n = omega arith in
    (laid_flat s a.row.n a.row.at a.lid _ _ _ _ c.first_axis-e1.ensures c.cross-e2.ensures (front_end (λ j. (flat j).x) l.work a.row.n l.k end l.invariant.2) (front_end (λ j. (flat j).y) (drop a.row.n l.work) a.row.n l.k end l.invariant.3), l.invariant.4)
