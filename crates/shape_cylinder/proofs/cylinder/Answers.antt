use Rattle.std.proofs.Common.{lit≤, rules}
use Rattle.face.proofs.Draws.{countable_less}
use Rattle.shape_cylinder.proofs.CylinderLaws.{top_countable, floor_countable, flat_cylinder, whole_cylinder}
use Rattle.shape_cylinder.proofs.cylinder.Goals as goal
use Rattle.shape_cylinder.proofs.cylinder.Goals.{then-height, else-height}

pub end-requires : goal.end-requires
end-requires c = countable_less (top_countable c.args.turn _ _ c.requires c.cylinder_sides.ensures) (lit≤ tt) (lit≤ tt)

pub end-requires-then-height : goal.end-requires-then-height
end-requires-then-height c = floor_countable c.args.turn _ _ c.requires c.cylinder_sides.ensures _ _ (search rules) c.end.ensures

pub returns : goal.returns
returns c = let a = c.args in
    rw (← c.ring_at-bottom.ensures, ← c.ring_at-top.ensures)
    (elim c.if-height.branch [
      | then-height w ↦ rw w.canvas-is (whole_cylinder a.turn a.height _ _ c.frame-up.ensures c.cylinder_sides.ensures c.end.ensures w.if-height.true w.neg.ensures w.end-then-height.ensures)
      | else-height w ↦ rw w.canvas-is (flat_cylinder a.turn a.height _ _ c.frame-up.ensures c.cylinder_sides.ensures c.end.ensures w.if-height.false)
    ])
