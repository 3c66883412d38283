use Rattle.std.proofs.Common.{arith, ◌+◌}
use Rattle.lists.specs.Loops.{sum_of}
use Rattle.scene_field.specs.Fields.{counts_at}
use Rattle.face.proofs.Canvases.{draws_then}
use Rattle.face.proofs.Draws.{countable_less}
use Rattle.shape_outline_walls.proofs.WallLaws.{outer_countable}
use Rattle.shape_outline.proofs.OutlineLaws.{few_edges, outer_drew}
use Rattle.shape_outline.proofs.all_walls.Goals as goal

pub walls-requires : goal.walls-requires
walls-requires c = let a = c.args in
    let m = c.requires.0 in
    let few = few_edges a.closed a.o.outer _ c.edges.ensures in
    (omega (arith, m.place, m.placed.inside, m.placed.counted.total), few, countable_less c.requires.1 (omega (arith, few, m.placed.counted.total)) (omega (arith, few, m.placed.counted.total)))

pub hole_walls-requires : goal.hole_walls-requires
hole_walls-requires c = let a = c.args in
    let s = a.s.now in
    let o = a.o in
    let m = c.requires.0 in
    let total = m.placed.counted.total in
    let inner = sum_of (λ k. k) (counts_at s o.holes (o.i + 4)) in
    let drew = outer_drew a.closed s o.outer o.at o.lid c.outer_normal-normal.ensures c.edges.ensures c.walls.ensures in
    record { holes_bound = (omega (arith, m.place), omega (arith, m.place, m.placed.inside)); countable = outer_countable s o.outer o.at a.closed o.lid o.n inner c.requires.1 drew (omega arith) }

pub returns : goal.returns
returns c = let a = c.args in
    let o = a.o in
    draws_then (outer_drew a.closed a.s.now o.outer o.at o.lid c.outer_normal-normal.ensures c.edges.ensures c.walls.ensures) c.hole_walls.ensures
