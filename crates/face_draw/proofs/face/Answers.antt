use Rattle.std.proofs.Common.{arith, refl, ◌+◌}
use Rattle.buffer.proofs.Vertices.{length_vertices}
use Rattle.coords.specs.Buffers.{vertices_in}
use Rattle.face_draw.proofs.OneFace.{length_triangles, all_counted, face_drawn}
use Rattle.face_judge.specs.Contract.Offered.{offered}
use Rattle.face_triangle.specs.Contract.Triangles.{triangles_in}
use Rattle.face_draw.proofs.face.Goals as goal

pub counted_with-canvas-requires : goal.counted_with-canvas-requires
counted_with-canvas-requires c = let a = c.args in
    let d = a.canvas.now in
    let p = c.requires.0 in
    let n = all_counted d.limit (vertices_in a.points.now) (triangles_in a.triangles.now) a.out 0 (d.before + d.tally.vertices) d.tally.kept d.indices.now (offered c.offer_all-s.result _) (rw c.judge_on.ensures at c.offer_all-s.ensures) in
    let m = length_triangles a.triangles.now in
    (omega (arith, p.vertices), omega (arith, n, m, p.kept), omega (arith, n, m, p.thin))

pub returns : goal.returns
returns c = let a = c.args in
    let d = a.canvas.now in
    let s = c.store_points.ensures in
    record {
      drew = λ part.
          rw (c.counted_with-canvas.ensures, s.0, s.1, ← length_vertices a.points.now)
          (face_drawn d.limit (vertices_in a.points.now) (triangles_in a.triangles.now) a.out d.before d.tally d.vertices.now d.normals.now d.indices.now (offered c.offer_all-s.result _) (rw c.judge_on.ensures at c.offer_all-s.ensures) part);
      same = record { vertices = refl; normals = refl; indices = refl; limit = refl; before = refl };
    }
