-- Document 01, section 2: Measure and Build on lists, with every refusal.
-- A call is answered by a number (0 where it is not refused), the object named and the counts.
use Rattle.std.specs.Prelude.{ℕ, ◌||◌, cond, List, map, length, ltb, Float, Result, Ok, Err}
use Rattle.lists.specs.Loops.{over}
use Rattle.millimetre.specs.Millimetres.{millimetres}
use Rattle.float.specs.Number.{min_area}
use Rattle.coords.specs.Buffers.{vertex_numbers, normal_numbers}
use Rattle.object.specs.Object.{Object}
use Rattle.refusal.specs.declared.Refusal.{Refusal}
use Rattle.refusal.specs.declared.Refusal.TheVariants.{ShortVertices, ShortIndices, ShortRecords, ShortMillimetres}
use Rattle.refusal.specs.Rows.{number_of}
use Rattle.scene.specs.Scene.{Scene, refused, accepted, scene}
use Rattle.lid.specs.Log.{Entry, log_numbers}
use Rattle.mesh.specs.PerBuffer.{each, at, Counts, Buffers, lent}
use Rattle.mesh.specs.Mesh.{Account, Mesh, mesh_of, accounts_of, logs_of, span_numbers, account_numbers}

pub record Answer : Type 0 where
  pub number : ℕ
  pub object : ℕ
  pub counts : Counts

unfoldable pub no_counts : Counts
no_counts = each (λ k. 0)

unfoldable pub refused_with : Refusal → ℕ → Answer
refused_with f object = record { number = number_of f; object = object; counts = no_counts }

-- a mesh, accounts and a log as numbers, and the vertices in whole millimetres
abbrev pub written : Mesh → List Account → List Entry → Buffers
written m accounts log =
    lent (vertex_numbers m.vertices) (normal_numbers m.normals) m.indices (span_numbers m.spans) (account_numbers accounts) (log_numbers log)
    (map millimetres (vertex_numbers m.vertices))

-- all that is written for a list of objects
unfoldable pub output : Float → List Object → Buffers
output limit os = written (mesh_of limit os) (accounts_of limit os) (logs_of os)

unfoldable pub counts_of : Buffers → Counts
counts_of b = each (λ k. length (at b k))

unfoldable pub done : Buffers → Answer
done written = record { number = 0; object = 0; counts = counts_of written }

-- ---- Measure

unfoldable pub measure_scene : Float → Scene → Answer
measure_scene limit (refused f object) = refused_with f object
measure_scene limit (accepted os) = done (output limit os)

unfoldable pub measure : List ℕ → Answer
measure bytes = measure_scene min_area (scene bytes)

-- ---- Build

-- whether the buffers have room, or the row of the first that is too short
abbrev pub Room : Type 0
Room = Result (Unit {0}) Refusal

unfoldable pub too_short : Counts → Counts → Room
too_short has needs =
    cond (ltb has.vertices needs.vertices || ltb has.normals needs.normals) (Err ShortVertices)
    (cond (ltb has.indices needs.indices) (Err ShortIndices)
    (cond (ltb has.spans needs.spans || ltb has.account needs.account || ltb has.log needs.log) (Err ShortRecords)
    (cond (ltb has.millimetres needs.millimetres) (Err ShortMillimetres)
    (Ok tt))))

-- the buffers with what is written over their first numbers
unfoldable pub overlay : Buffers → Buffers → Buffers
overlay written b = each (λ k. over (at written k) (at b k))

-- an answer, and what the buffers hold after the call
pub record Built : Type 0 where
  pub answer : Answer
  pub buffers : Buffers

-- a refused call leaves the buffers as they were
abbrev pub refused_build : Refusal → ℕ → Buffers → Built
refused_build f object b = record { answer = refused_with f object; buffers = b }

unfoldable pub build_output : Buffers → Buffers → Room → Built
build_output written b (Ok tt) = record { answer = done written; buffers = overlay written b }
build_output written b (Err f) = refused_build f 0 b

unfoldable pub build_scene : Float → Scene → Buffers → Built
build_scene limit (refused f object) b = refused_build f object b
build_scene limit (accepted os) b = let w = output limit os in build_output w b (too_short (counts_of b) (counts_of w))

unfoldable pub build : List ℕ → Buffers → Built
build bytes b = build_scene min_area (scene bytes) b
