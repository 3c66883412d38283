use Rattle.std.proofs.Common.{arith, le_antisymm, le_refl}
use Rattle.lists.specs.Loops.{list, join, sum_of}
use Rattle.scene_field.specs.Fields.{counts_at, holes_at}
use Rattle.face.proofs.Canvases.{draws_none}
use Rattle.shape_outline_walls.proofs.HoleWallLaws.{hole_drew, counts_next, counts_most, holes_next, holes_countable}
use Rattle.shape_outline_walls.proofs.holes.hole_walls.Goals as goal

pub loop-k-init : goal.loop-k-init
unfolding counts_at holes_at list join sum_of
loop-k-init c = (omega arith, draws_none)

pub overflow_mul-place : goal.overflow_mul-place
overflow_mul-place c = let a = c.args in
    let k = c.loop-k.k in
    omega (arith, c.u16_at-n.ensures, counts_next a.s.now a.counts a.at a.lid k, counts_most a.s.now a.counts a.at a.lid a.holes k c.loop-k-test.true, c.requires.holes_bound.1)

pub overflow_add-place : goal.overflow_add-place
overflow_add-place c = let a = c.args in
    let k = c.loop-k.k in
    omega (arith, c.u16_at-n.ensures, counts_next a.s.now a.counts a.at a.lid k, counts_most a.s.now a.counts a.at a.lid a.holes k c.loop-k-test.true, c.loop-k.invariant.0, c.requires.holes_bound.1)

pub about-requires : goal.about-requires
about-requires c = let a = c.args in
    let k = c.loop-k.k in
    omega (arith, c.u16_at-n.ensures, counts_next a.s.now a.counts a.at a.lid k, counts_most a.s.now a.counts a.at a.lid a.holes k c.loop-k-test.true, c.loop-k.invariant.0, c.requires.holes_bound.1)

pub walls-requires : goal.walls-requires
walls-requires c = let a = c.args in
    let k = c.loop-k.k in
    let next = counts_next a.s.now a.counts a.at a.lid k in
    let most = counts_most a.s.now a.counts a.at a.lid a.holes k c.loop-k-test.true in
    (omega (arith, c.u16_at-n.ensures, next, most, c.loop-k.invariant.0, c.requires.holes_bound.1), le_refl _, holes_countable a.s.now a.counts a.at a.lid k _ _ c.requires.countable c.loop-k.invariant.1 (omega (arith, c.u16_at-n.ensures, next, most)))

pub loop-k-preserved : goal.loop-k-preserved
loop-k-preserved c = let a = c.args in
    let l = c.loop-k in
    let n = c.u16_at-n.ensures in
    (omega (arith, n, counts_next a.s.now a.counts a.at a.lid l.k, l.invariant.0), holes_next a.s.now a.counts a.at a.lid l.k _ _ n l.invariant.0 l.invariant.1 (hole_drew a.s.now _ _ a.lid c.about.ensures c.neg-normal.ensures c.walls.ensures))

pub returns : goal.returns
returns c = rw (le_antisymm c.loop-k.auto.k-end c.loop-k-test.false) at c.loop-k.invariant.1
