-- `validate_mesh::faults::first_not_finite` meets its contract: the search from where the finite vertices were passed is the search from 0. Assumes nothing.
use Rattle.std.proofs.Common.{length, ◌∙◌}
use Rattle.lists.proofs.Loops.{first_start}
use Rattle.coords.specs.Buffers.{vertices_in}
use Rattle.validate.specs.Faults.{not_finite}
use Rattle.validate_mesh.proofs.faults.first_not_finite.Goals as goal

pub returns : goal.returns
returns c = let vs = vertices_in c.args.vertices.now in
    c.not_finite_from.ensures ∙ c.pass_finite.ensures ∙ first_start (not_finite vs) (length vs)
