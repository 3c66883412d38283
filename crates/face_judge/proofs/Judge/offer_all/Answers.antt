-- `face_judge::Judge::offer_all` meets its contract: the triangles from j on, offered to the present sums, come to what all come to. Assumes nothing.
use Rattle.std.proofs.Common.{arith, length, refl, ◌/◌}
use Rattle.buffer.proofs.Vertices.{length_vertices}
use Rattle.coords.specs.Buffers.{vertices_in}
use Rattle.face_judge.proofs.OneOffered.{one_counted, low_at}
use Rattle.face_triangle.specs.Contract.Triangles.{triangle_at, triangles_in}
use Rattle.face_judge.specs.Contract.Offered.{offered, offer_one, offer_all, no_sum}
use Rattle.lists.proofs.Loops.{fold_start, fold_next, fold_end}
use Rattle.face_judge.proofs.Judge.offer_all.Goals as goal

pub loop-j-init : goal.loop-j-init
unfolding offer_all triangles_in
loop-j-init c = let a = c.args in
    let j = a.self in
    (refl, fold_start (offer_one j.limit (vertices_in a.points.now) j.out j.base j.place) (triangle_at a.triangles.now) (length a.triangles.now / 3) (offered no_sum a.is.now))

pub offer_at-s-requires : goal.offer_at-s-requires
unfolding triangles_in
offer_at-s-requires c = let a = c.args in
    let l = c.loop-j in
    let ts = a.triangles.now in
    let h = c.loop-j-test.true in
    let low = low_at (length a.points.now / 3) (triangle_at ts) (length ts / 3) l.j h (rw (length_vertices a.points.now) at c.requires.2) in
    (h, low, c.requires.0, omega arith, omega arith)

pub loop-j-preserved : goal.loop-j-preserved
loop-j-preserved c = let a = c.args in
    let j = a.self in
    let l = c.loop-j in
    let e = c.offer_at-s.ensures in
    let ps = vertices_in a.points.now in
    let step = one_counted j.limit ps j.out j.base j.place (offered l.s l.is) _ (triangle_at a.triangles.now l.j) e in
    (omega arith, fold_next (offer_one j.limit ps j.out j.base j.place) (triangle_at a.triangles.now) (length a.triangles.now / 3) l.j (offered l.s l.is) _ _ (omega arith) e l.invariant.1)

pub returns : goal.returns
returns c = let a = c.args in
    let j = a.self in
    let l = c.loop-j in
    fold_end (offer_one j.limit (vertices_in a.points.now) j.out j.base j.place) (triangle_at a.triangles.now) (length a.triangles.now / 3) l.j (offered l.s l.is) _ c.loop-j-test.false l.invariant.1
