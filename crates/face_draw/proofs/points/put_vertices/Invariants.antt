use Rattle.std.proofs.Common.{length, replicate, ◌*◌, ◌+◌, ◌-◌, ◌≡◌}
use lib.Seq.{sets}
use Rattle.coords.specs.Buffers.{vertex_record, vertex_numbers, normal_record, normal_numbers, vertex_at, vertices_in}
use Rattle.lists.specs.Loops.{list, join}
use Rattle.face_draw.proofs.points.put_vertices.Given as goal

abbrev pub invariant-loop-k : goal.invariant-loop-k
invariant-loop-k l =
    (sets l.vs (3 * (l.at + l.k)) (join vertex_record (list (vertex_at l.points) (l.n - l.k) l.k)) ≡ sets l.initial.vs (3 * l.at) (vertex_numbers (vertices_in l.points)))
    × (sets l.ns (3 * (l.at + l.k)) (join normal_record (list (λ i. l.normal) (l.n - l.k) l.k)) ≡ sets l.initial.ns (3 * l.at) (normal_numbers (replicate (length (vertices_in l.points)) l.normal)))
