use Rattle.std.proofs.Common.{arith, length, ◌+◌, ◌/◌}
use Rattle.face_triangle.specs.Contract.Triangles.{triangles_in}
use Rattle.face.proofs.Canvases.{draws_part}
use Rattle.face.proofs.Draws.{countable_less}
use Rattle.face_draw.proofs.OneFace.{length_triangles}
use Rattle.shape_outline_corners.proofs.CornerLaws.{bases_points, tops_points, points_length}
use Rattle.shape_outline_lid.proofs.LidLaws.{points_drawn, face_asks, face_countable}
use Rattle.shape.specs.Contract.Stages.{lid_face, floor_faces}
use Rattle.shape.proofs.Canvases.{drawn_none, drawn_first, drawn_empty}
use Rattle.shape_outline_lid.proofs.faces.lid_faces.Goals as goal

pub face-requires : goal.face-requires
face-requires c = let a = c.args in
    let o = a.o in
    let s = a.s.now in
    let e = points_drawn s o.n (o.at + 12) _ _ c.put_points.ensures c.requires.corners_in.1 in
    face_asks (triangles_in a.triangles.now) _ _ e (points_length s o.n (o.at + 12)) (countable_less c.requires.countable.0 (omega arith) (omega arith)) c.requires.countable.1

pub face-requires-then-o : goal.face-requires-then-o
face-requires-then-o c = let a = c.args in
    let o = a.o in
    let s = a.s.now in
    let top = points_drawn s o.n (o.at + 12) _ _ c.put_points.ensures c.requires.corners_in.1 in
    let e = points_drawn s o.n o.at _ _ c.put_points-then-o.ensures (omega (arith, c.requires.corners_in.1, c.put_points.auto.points)) in
    let countable = face_countable o.n (length a.triangles.now / 3) c.requires.countable.0 (rw top at (draws_part 2 c.face.ensures)) (points_length s o.n (o.at + 12)) (length_triangles a.triangles.now) in
    face_asks (triangles_in a.triangles.now) _ _ e (points_length s o.n o.at) countable c.requires.countable.1

pub returns-then-o : goal.returns-then-o
unfolding lid_face floor_faces
returns-then-o c = let a = c.args in
    let o = a.o in
    let s = a.s.now in
    let top = points_drawn s o.n (o.at + 12) _ _ c.put_points.ensures c.requires.corners_in.1 in
    let base = points_drawn s o.n o.at _ _ c.put_points-then-o.ensures (omega (arith, c.requires.corners_in.1, c.put_points.auto.points)) in
    rw (← c.requires.corners_in.2, c.if-o.true, tops_points s o.n o.at, bases_points s o.n o.at, ← c.neg.ensures)
    (drawn_first 2 (rw top at (draws_part 2 c.face.ensures)) (drawn_first 3 (rw base at (draws_part 3 c.face-then-o.ensures)) drawn_none))

pub returns-else-o : goal.returns-else-o
unfolding lid_face floor_faces
returns-else-o c = let a = c.args in
    let o = a.o in
    let s = a.s.now in
    let top = points_drawn s o.n (o.at + 12) _ _ c.put_points.ensures c.requires.corners_in.1 in
    rw (← c.requires.corners_in.2, c.if-o.false, tops_points s o.n o.at) (drawn_first 2 (rw top at (draws_part 2 c.face.ensures)) (drawn_empty 3 drawn_none))
