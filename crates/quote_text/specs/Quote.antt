-- The text that the quote program prints for the bytes that it reads. Definitions only.
use Rattle.std.specs.Prelude.{ℕ, cond, List, ◌++◌, length, ltb}
use Rattle.lists.specs.Loops.{join}
use Rattle.float.specs.Number.{min_area}
use Rattle.coords.specs.Buffers.{vertex_numbers}
use Rattle.object.specs.Object.{Object}
use Rattle.refusal.specs.Rows.{number_of}
use Rattle.scene.specs.Scene.{Scene, refused, accepted, scene}
use Rattle.validate.specs.Verdict.{Validation}
use Rattle.validate.specs.Validate.{validate}
use Rattle.mesh.specs.Mesh.{Mesh, account_of, mesh_of}
use Rattle.quote_lines.specs.Lines.{refused_line, account_line, counts_line, is_ok, verdict_line}

-- an object: its id and the first three numbers of its account
unfoldable pub object_line : Object → List ℕ
object_line o = let a = account_of min_area o in account_line o.id a.offered a.kept a.thin

-- the mesh: its counts of vertices, indices and spans
unfoldable pub mesh_line : Mesh → List ℕ
mesh_line m = counts_line (length m.vertices) (length m.indices) (length m.spans)

unfoldable pub validation : Mesh → Validation
validation m = validate (vertex_numbers m.vertices) m.indices

-- a line for each object, in order, then the mesh's and the verdict's
unfoldable pub objects_text : List Object → List ℕ
objects_text os = let m = mesh_of min_area os in join object_line os ++ mesh_line m ++ verdict_line (is_ok (validation m))

-- a refusal prints only its number
unfoldable pub scene_text : Scene → List ℕ
scene_text (refused r object) = refused_line (number_of r)
scene_text (accepted os) = objects_text os

-- of at most 4,096 bytes; of more, refusal 1
unfoldable pub quote_text : List ℕ → List ℕ
quote_text bytes = cond (ltb 4096 (length bytes)) (refused_line 1) (scene_text (scene bytes))
