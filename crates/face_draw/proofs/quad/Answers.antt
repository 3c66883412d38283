use Rattle.std.proofs.Common.{[], arith, refl, ◌+◌, ◌-◌, ◌∷◌}
use Rattle.coords.specs.Buffers.{vertices_in}
use Rattle.coords_vector.specs.Vectors.{zero_v}
use Rattle.face.specs.Faces.{triangle, fan, quad}
use Rattle.face_draw.proofs.OneFace.{all_counted, face_drawn, face_counted}
use Rattle.lists.specs.Loops.{list}
use Rattle.face_judge.specs.Contract.Offered.{offered, offer_all}
use Rattle.face_draw.proofs.quad.Goals as goal

pub returns-then-has_no_room : goal.returns-then-has_no_room
unfolding list fan quad
returns-then-has_no_room c = let a = c.args in
    let d = a.canvas.now in
    let t = d.tally in
    let ps = a.a ∷ a.b ∷ a.c ∷ a.d ∷ [] in
    let ts = triangle 0 1 2 ∷ triangle 0 2 3 ∷ [] in
    let o = offer_all d.limit ps a.out (d.before + t.vertices) t.kept d.indices.now ts in
    let r = c.thin_in_quad-thin.result in
    let thin = c.thin_in_quad-thin.ensures.value a.out (d.before + t.vertices) t.kept d.indices.now in
    let room = c.if-has_no_room.ensures refl in
    record {
      drew = λ part.
          let all = all_counted d.limit ps ts a.out part (d.before + t.vertices) t.kept d.indices.now o refl in
          rw c.counted_with-canvas.ensures
          (face_counted d.limit ps ts a.out d.before t d.vertices.now d.normals.now d.indices.now o refl part room.0 room.1 room.2 (record { normal = zero_v; kept = 2 - r; thin = r }) (omega (arith, thin, all)) thin);
      same = record { vertices = refl; normals = refl; indices = refl; limit = refl; before = refl };
    }

pub counted_with-canvas-requires-2 : goal.counted_with-canvas-requires-2
counted_with-canvas-requires-2 c = let a = c.args in
    let d = a.canvas.now in
    let p = c.requires in
    let n = all_counted d.limit (a.a ∷ a.b ∷ a.c ∷ a.d ∷ []) (triangle 0 1 2 ∷ triangle 0 2 3 ∷ []) a.out 0 (d.before + d.tally.vertices) d.tally.kept d.indices.now (offered c.offer_quad-s.result _) (rw c.judge_on.ensures at c.offer_quad-s.ensures) in
    (omega (arith, p.vertices), omega (arith, n, p.kept), omega (arith, n, p.thin))

pub returns : goal.returns
unfolding vertices_in list fan quad
returns c = let a = c.args in
    let d = a.canvas.now in
    let s = c.store_points.ensures in
    record {
      drew = λ part.
          rw (c.counted_with-canvas-2.ensures, s.0, s.1)
          (face_drawn d.limit (a.a ∷ a.b ∷ a.c ∷ a.d ∷ []) (triangle 0 1 2 ∷ triangle 0 2 3 ∷ []) a.out d.before d.tally d.vertices.now d.normals.now d.indices.now (offered c.offer_quad-s.result _) (rw c.judge_on.ensures at c.offer_quad-s.ensures) part);
      same = record { vertices = refl; normals = refl; indices = refl; limit = refl; before = refl };
    }
