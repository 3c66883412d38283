use Rattle.std.proofs.Common.{arith, refl, zero-add, ◌*◌, ◌+◌, ◌∙◌}
use Rattle.coords.specs.Buffers.{vertex_record, vertex_numbers}
use Rattle.lists.proofs.Stores.{store_start, store_next, store_end}
use Rattle.scene_field.specs.Fields.{point_at}
use Rattle.shape_outline_corners.specs.Contract.Outlines.{points_at}
use Rattle.shape_outline_lid.proofs.faces.put_points.Goals as goal

pub loop-k-init : goal.loop-k-init
unfolding vertex_numbers points_at
loop-k-init c = let a = c.args in
    (omega arith, refl, store_start vertex_record 3 (λ p. refl) (λ j. point_at a.s.now (a.at + 24 * j)) a.n 0 a.points.now)

pub loop-k-preserved : goal.loop-k-preserved
loop-k-preserved c = let a = c.args in
    (omega arith, c.put_three.auto.s ∙ c.loop-k.invariant.1, store_next vertex_record 3 (λ p. refl) (λ j. point_at a.s.now (a.at + 24 * j)) a.n 0 c.loop-k.k c.loop-k.points _ _ c.loop-k-test.true (rw (zero-add c.loop-k.k, ← c.point_at-p.ensures) c.put_three.ensures) c.loop-k.invariant.2)

pub returns : goal.returns
returns c = let a = c.args in
    store_end vertex_record 3 (λ p. refl) (λ j. point_at a.s.now (a.at + 24 * j)) a.n 0 c.loop-k.k c.loop-k.points _ c.loop-k-test.false c.loop-k.invariant.2
