use Rattle.validate.specs.Faults.{degenerate}
use Rattle.buffer.proofs.Vertices.{vertex_in}
use Rattle.validate_mesh.proofs.faults.degenerate.Goals as goal

pub returns : goal.returns
unfolding degenerate
returns c = let xs = c.args.vertices.now in
    rw (← vertex_in xs c.args.a c.requires.0, ← vertex_in xs c.args.b c.requires.1, ← vertex_in xs c.args.c c.requires.2, c.no_area-thin.ensures, c.vertex_at-3.ensures, c.vertex_at-2.ensures, c.vertex_at.ensures)
