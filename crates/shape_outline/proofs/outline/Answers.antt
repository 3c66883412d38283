use Rattle.std.proofs.Common.{arith, refl}
use Rattle.face.proofs.Canvases.{same_then}
use Rattle.shape_outline_walls.proofs.WallLaws.{start_countable}
use Rattle.shape_outline.proofs.Cleared.{cleared_same}
use Rattle.shape_outline.proofs.OutlineLaws.{outline_holds, high_in, countable_in, open_in, closed_in}
use Rattle.shape_outline.proofs.outline.Goals as goal

pub all_walls-requires : goal.all_walls-requires
all_walls-requires c = let p = c.requires in
    let a = c.args in
    let m = outline_holds a.s.now a.i a.closed a.outer a.holes a.corners c.outline_at-o.ensures p.0 in
    (m, start_countable a.canvas.now.before _ p.1 (omega (arith, m.placed.counted.total, m.placed.counted.most)))

pub cap-c-requires : goal.cap-c-requires
cap-c-requires c = let p = c.requires in
    let a = c.args in
    let e = c.outline_at-o.ensures in
    (outline_holds a.s.now a.i a.closed a.outer a.holes a.corners e p.0, high_in a.s.now a.i a.closed a.outer a.holes a.corners e p.0 c.if-closed.true, countable_in a.s.now a.i a.closed a.outer a.holes a.corners e p.0 a.canvas.now p.1 c.all_walls.ensures)

pub returns-then-closed : goal.returns-then-closed
returns-then-closed c = let a = c.args in
    let walls = c.all_walls.ensures in
    let capped = c.cap-c.ensures in
    record {
      drew = closed_in a.s.now a.i a.closed a.outer a.holes a.corners c.outline_at-o.ensures c.requires.0 a.canvas.now c.if-closed.true walls capped;
      counts = refl;
      same = same_then (cleared_same walls.same) capped.drew.same;
    }

pub open_price-requires : goal.open_price-requires
open_price-requires c = let a = c.args in
    let m = outline_holds a.s.now a.i a.closed a.outer a.holes a.corners c.outline_at-o.ensures c.requires.0 in
    (omega (arith, m.placed.counted.total), omega (arith, m.placed.counted.most))

pub returns : goal.returns
returns c = let a = c.args in
    let walls = c.all_walls.ensures in
    record {
      drew = open_in a.s.now a.i a.closed a.outer a.holes a.corners c.outline_at-o.ensures c.requires.0 a.canvas.now c.if-closed.false walls c.open_price.ensures;
      counts = refl;
      same = cleared_same walls.same;
    }
