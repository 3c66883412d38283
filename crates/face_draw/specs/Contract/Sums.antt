-- A face whose triangles came to a sum: its points are stored and counted unless none was kept. Definitions only.
use Rattle.std.specs.Prelude.{◌≡◌, ℕ, ◌+◌, ◌*◌, Bool, cond, List, eqb, length, replicate, Float}
use Rattle.std.proofs.lemmas.List.Edits.{sets}
use Rattle.lists.specs.Slices.{Slice}
use Rattle.coords_vector.specs.declared.Vector.{Vector}
use Rattle.coords_vector.specs.Vectors.{unit_z, normalize_or}
use Rattle.coords.specs.declared.Point.{Point}
use Rattle.coords.specs.Buffers.{vertex_numbers, normal_numbers}
use Rattle.face_judge.specs.declared.Sum.{Sum}
use Rattle.face_judge.specs.declared.Judge.{Judge}
use Rattle.face.specs.declared.Tally.{Tally}
use Rattle.face.specs.declared.Canvas.{Canvas}
use Rattle.face.specs.Contract.Drawing.{tally}

-- the next face on the canvas: its first vertex and its first kept triangle stand behind all that was counted
abbrev pub judge_on : Canvas → Vector → Judge
judge_on c out = record { limit = c.limit; out = out; base = c.before + c.tally.vertices; place = c.tally.kept }

unfoldable pub counted_with : Bool → ℕ → Sum → Tally → Tally
counted_with none n s t = cond none (tally t.vertices t.kept (t.thin + s.thin)) (tally (t.vertices + n) (t.kept + s.kept) (t.thin + s.thin))

unfoldable pub vertices_with : Bool → List Point → ℕ → List Float → List Float
vertices_with none ps at vs = cond none vs (sets vs (3 * at) (vertex_numbers ps))

unfoldable pub normals_with : Bool → List Point → Vector → ℕ → List Float → List Float
normals_with none ps sum at ns = cond none ns (sets ns (3 * at) (normal_numbers (replicate (length ps) (normalize_or sum unit_z))))

-- the points of a face whose triangles came to the sum were stored in the lent slices from vertex number `at` on, if one was kept
abbrev pub StoresKept : List Point → Sum → ℕ → Slice Float → Slice Float → Type 0
StoresKept ps s at vs ns =
    (vs.exit.now ≡ vertices_with (eqb s.kept 0) ps at vs.entry.now)
    × (ns.exit.now ≡ normals_with (eqb s.kept 0) ps s.normal at ns.entry.now)
