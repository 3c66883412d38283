use Rattle.std.proofs.Common.{length, ◌+◌, ◌-◌, ◌≡◌, ◌/◌}
use Rattle.coords.specs.Buffers.{vertices_in}
use Rattle.face_triangle.specs.Contract.Triangles.{triangle_at, triangles_in}
use Rattle.face_judge.specs.Contract.Offered.{offered, offer_one, offer_all}
use Rattle.lists.specs.Loops.{list, fold}
use Rattle.face_judge.proofs.Judge.offer_all.Given as goal

abbrev pub invariant-loop-j : goal.invariant-loop-j
invariant-loop-j l =
    (l.s.kept + l.s.thin ≡ l.j)
    × (fold (offer_one l.self.limit (vertices_in l.points) l.self.out l.self.base l.self.place) (offered l.s l.is) (list (triangle_at l.triangles) (length l.triangles / 3 - l.j) l.j)
    ≡ offer_all l.self.limit (vertices_in l.points) l.self.out l.self.base l.self.place l.initial.is (triangles_in l.triangles))
