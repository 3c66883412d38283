use Rattle.std.proofs.Common.{◌≡◌}
use Rattle.std.specs.Iterator.Adapters.{enumerate_count, enumerate_source}
use Rattle.std.specs.Slice.Iter.{chunks_rest, chunks_size}
use Rattle.coords.specs.Buffers.{vertices_in}
use Rattle.validate.specs.Validate.{triangles_from}
use Rattle.validate_mesh.proofs.triangles.Given as goal

abbrev pub invariant-loop-t : goal.invariant-loop-t
invariant-loop-t l =
    let rest = chunks_rest (enumerate_source l.t-iterator) in
    (chunks_size (enumerate_source l.t-iterator) ≡ 3) × (triangles_from l.limit (vertices_in l.vertices) (enumerate_count l.t-iterator) rest ≡ triangles_from l.limit (vertices_in l.vertices) 0 l.indices)
