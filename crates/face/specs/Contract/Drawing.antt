-- What drawing faces leaves in the lent buffers and counts: the one form of contract for all that draws. Definitions only.
use Rattle.std.specs.Prelude.{◌≡◌, ℕ, ◌+◌, ◌*◌, ◌<◌, ◌^◌, List, [], ◌∷◌, length, Float}
use Rattle.std.proofs.lemmas.List.Edits.{sets}
use Rattle.lists.specs.Loops.{sum_of}
use Rattle.coords_vector.specs.declared.Vector.{Vector}
use Rattle.coords.specs.Buffers.{vertex_numbers, normal_numbers, vertices_in}
use Rattle.face.specs.declared.Tally.{Tally}
use Rattle.face.specs.declared.Canvas.{Canvas}
use Rattle.face.specs.Faces.{Face, thin_in, kept_of, write_faces}
use Rattle.face_triangle.specs.Contract.Triangles.{triangles_in}

abbrev pub tally : ℕ → ℕ → ℕ → Tally
tally vertices kept thin = record { vertices = vertices; kept = kept; thin = thin }

-- the buffers, and what has been written to them and counted so far
pub record Drawing : Type 0 where
  pub tally : Tally
  pub vertices : List Float
  pub normals : List Float
  pub indices : List ℕ

abbrev pub drawing : Tally → List Float → List Float → List ℕ → Drawing
drawing t vs ns is = record { tally = t; vertices = vs; normals = ns; indices = is }

-- the counts with those of faces drawn from vertex number `first` on
unfoldable pub counted : Float → ℕ → List Face → Tally → Tally
counted limit first faces t =
    tally (t.vertices + length (write_faces limit first faces).vertices) (t.kept + sum_of (λ f. length (kept_of limit f)) faces) (t.thin + sum_of (thin_in limit) faces)

-- the faces drawn behind what stands in the buffers; `before` vertices lie before the buffers. A store past a buffer's end is left out.
unfoldable pub drawn : Float → List Face → ℕ → Drawing → Drawing
drawn limit faces before d =
    let t = d.tally in
    let first = before + t.vertices in
    let p = write_faces limit first faces in
    drawing (counted limit first faces t) (sets d.vertices (3 * t.vertices) (vertex_numbers p.vertices))
    (sets d.normals (3 * t.vertices) (normal_numbers p.normals)) (sets d.indices (3 * t.kept) p.indices)

-- drawing the faces took the buffers and the counts from d to d'
pub record Drew (limit : Float) (faces : List Face) (before : ℕ) (d d' : Drawing) : Type 0 where
  pub after : d' ≡ drawn limit faces before d

-- ---- on a canvas

abbrev pub drawing_on : Canvas → Drawing
drawing_on c = drawing c.tally c.vertices.now c.normals.now c.indices.now

-- c' has the buffers that were lent to c, its limit and the vertices before it
pub record SameLoans (c c' : Canvas) : Type 0 where
  pub vertices : c'.vertices.ghost_name ≡ c.vertices.ghost_name
  pub normals : c'.normals.ghost_name ≡ c.normals.ghost_name
  pub indices : c'.indices.ghost_name ≡ c.indices.ghost_name
  pub limit : c'.limit ≡ c.limit
  pub before : c'.before ≡ c.before

-- the faces were drawn on the canvas, which was c and is c'
pub record Draws (faces : List Face) (c c' : Canvas) : Type 0 where
  pub drew : Drew c.limit faces c.before (drawing_on c) (drawing_on c')
  pub same : SameLoans c c'

-- one face, whatever its part is
pub record DrawsFace (face : ℕ → Face) (c c' : Canvas) : Type 0 where
  pub drew : (part : ℕ) → Drew c.limit (face part ∷ []) c.before (drawing_on c) (drawing_on c')
  pub same : SameLoans c c'

-- v vertices and k triangles more can be counted: all counts stay below 2 ^ 32
pub record Countable (before : ℕ) (t : Tally) (v k : ℕ) : Type 0 where
  pub vertices : before + t.vertices + v < 2 ^ 32
  pub kept : t.kept + k < 2 ^ 32
  pub thin : t.thin + k < 2 ^ 32

abbrev pub CountableOn : Canvas → ℕ → ℕ → Type 0
CountableOn c v k = Countable c.before c.tally v k

-- the face whose points and triangles are lent as numbers, three to one
abbrev pub face_in : ℕ → List Float → List ℕ → Vector → Face
face_in part points triangles out = record { points = vertices_in points; triangles = triangles_in triangles; out = out; part = part }
