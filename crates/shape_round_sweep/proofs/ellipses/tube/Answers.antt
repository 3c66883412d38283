-- `shape_round_sweep::ellipses::tube` meets its contract: k sides are drawn. Assumes nothing.
use Rattle.std.proofs.Common.{arith, le_antisymm, rules}
use Rattle.lists.specs.Loops.{list}
use Rattle.face.proofs.Canvases.{draws_none, draws_next}
use Rattle.shape.specs.Shapes.{tube_side, tube_faces}
use Rattle.shape.proofs.Canvases.{draws_left}
use Rattle.shape_round_sweep.specs.Contract.Rings.{ellipse_of}
use Rattle.shape_round_sweep.proofs.RingFaces.{side_drew, sides_sized}
use Rattle.shape_round_sweep.proofs.ellipses.tube.Goals as goal

pub loop-k-init : goal.loop-k-init
unfolding list
loop-k-init c = draws_none

pub quad-requires : goal.quad-requires
quad-requires c = let h = c.loop-k-test.true in
    draws_left c.requires c.loop-k.invariant (sides_sized _ _ c.loop-k.k) (omega (arith, h)) (omega (arith, h))

pub loop-k-preserved : goal.loop-k-preserved
loop-k-preserved c = let a = ellipse_of c.args.a.now in
    let b = ellipse_of c.args.b.now in
    let l = c.loop-k in
    draws_next (tube_side a b) l.k l.invariant (side_drew a b l.k _ _ c.loop-k-test.true (search rules) (search rules) c.side_direction-out.ensures c.quad.ensures)

pub returns : goal.returns
unfolding tube_faces
returns c = rw (le_antisymm c.loop-k.auto.k-end c.loop-k-test.false) at c.loop-k.invariant
