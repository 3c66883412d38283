-- The lengths of the lent buffers as counts.
use Rattle.mesh_answer.specs.declared.Lengths.{Lengths}
use Rattle.mesh.specs.PerBuffer.{Counts as Numbers}

abbrev pub lengths_from : Lengths → Numbers
lengths_from c = record { vertices = c.vertices; normals = c.normals; indices = c.indices; spans = c.spans; account = c.account; log = c.log; millimetres = c.millimetres }
