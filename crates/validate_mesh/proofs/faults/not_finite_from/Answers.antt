-- The search from k on gives what the search from the start gives.
use Rattle.std.proofs.Common.{arith, length}
use Rattle.lists.proofs.Loops.{first_found, first_next, first_end}
use Rattle.coords.specs.Buffers.{vertices_in}
use Rattle.validate.specs.Faults.{not_finite}
use Rattle.buffer.proofs.Vertices.{length_vertices}
use Rattle.validate_mesh.proofs.Passing.{below_length, test_is}
use Rattle.validate_mesh.proofs.faults.not_finite_from.Goals as goal

pub returns-then-not-is_finite : goal.returns-then-not-is_finite
returns-then-not-is_finite c = let xs = c.args.vertices.now in
    first_found (not_finite (vertices_in xs)) (length (vertices_in xs)) c.loop-k.k _ (below_length xs c.loop-k-test.true) (test_is xs c.loop-k.k c.loop-k-test.true c.vertex_at.ensures c.if-not-is_finite.ensures) c.loop-k.invariant

pub loop-k-preserved : goal.loop-k-preserved
loop-k-preserved c = let xs = c.args.vertices.now in
    first_next (not_finite (vertices_in xs)) (length (vertices_in xs)) c.loop-k.k _ (below_length xs c.loop-k-test.true) (test_is xs c.loop-k.k c.loop-k-test.true c.vertex_at.ensures c.if-not-is_finite.ensures) c.loop-k.invariant

pub returns : goal.returns
returns c = let xs = c.args.vertices.now in
    first_end (not_finite (vertices_in xs)) (length (vertices_in xs)) c.loop-k.k _ (omega (arith, length_vertices xs)) c.loop-k.invariant
