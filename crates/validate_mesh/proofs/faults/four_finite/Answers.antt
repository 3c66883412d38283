use Rattle.coords.specs.Coords.{finite_point}
use Rattle.coords.specs.Buffers.{vertex_at}
use Rattle.validate_mesh.proofs.Passing.{four_tests}
use Rattle.validate_mesh.proofs.faults.four_finite.Goals as goal

pub returns : goal.returns
returns c = let a = c.args in
    rw (c.is_finite-4.ensures, c.vertex_at-4.ensures, c.is_finite-3.ensures, c.vertex_at-3.ensures, c.is_finite-2.ensures, c.vertex_at-2.ensures, c.is_finite.ensures, c.vertex_at.ensures) (four_tests finite_point (vertex_at a.vertices.now) a.k)
