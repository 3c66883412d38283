use Rattle.std.proofs.Common.{◌≡◌}
use Rattle.coords.specs.Buffers.{vertices_in}
use Rattle.validate.specs.Contract.Validate.{not_finite_from}
use Rattle.validate_mesh.proofs.faults.not_finite_from.Given as goal

abbrev pub invariant-loop-k : goal.invariant-loop-k
invariant-loop-k l = not_finite_from (vertices_in l.vertices) l.k ≡ not_finite_from (vertices_in l.vertices) l.start
