use Rattle.coords.specs.Buffers.{vertex_numbers}
use Rattle.shape_ring_face.proofs.Rings.{Laid}
use Rattle.shape_ring_face.proofs.numbers_of.Given as goal

abbrev pub invariant-loop-k : goal.invariant-loop-k
invariant-loop-k l = Laid l.ring l.k l.numbers (vertex_numbers l.ring)
