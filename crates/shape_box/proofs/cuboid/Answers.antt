-- `shape_box::cuboid` meets its contract: the faces across the first k axes are drawn, and the counts after each of them stored. Assumes nothing.
use Rattle.std.proofs.Common.{le_antisymm, refl}
use Rattle.shape_box.proofs.BoxLaws.{axis_read, drawn_start, drawn_countable, drawn_next, drawn_all}
use Rattle.shape_box.proofs.cuboid.Goals as goal

pub loop-k-init : goal.loop-k-init
loop-k-init c = drawn_start _ _ _ c.requires

pub box_sides-requires : goal.box_sides-requires
box_sides-requires c = drawn_countable c.loop-k.invariant c.loop-k-test.true

pub loop-k-preserved : goal.loop-k-preserved
loop-k-preserved c = let l = c.loop-k in
    let h = c.loop-k-test.true in
    drawn_next l.invariant _ h (axis_read l.k _ h) c.box_sides.ensures

pub returns : goal.returns
returns c = let l = c.loop-k in
    drawn_all l.invariant (le_antisymm l.auto.k-end c.loop-k-test.false) refl
