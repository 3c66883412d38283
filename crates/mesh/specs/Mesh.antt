-- Document 01, section 7: the mesh, the spans, the account and the log of a list of objects, at a limit below which a triangle is thin.
use Rattle.std.specs.Prelude.{◌/◌, ◌*◌, ℕ, ◌+◌, cond, List, [], ◌∷◌, ◌++◌, map, length, get_or, eqb, Float}
use Rattle.lists.specs.Loops.{list, join, sum_of}
use Rattle.coords.specs.declared.Point.{Point}
use Rattle.coords_vector.specs.declared.Vector.{Vector}
use Rattle.object.specs.Object.{Shape, Object}
use Rattle.face.specs.Faces.{Piece, kept_of, thin_in, write_faces}
use Rattle.lid.specs.Log.{Entry}
use Rattle.shape.specs.Price.{offered}
use Rattle.shape.specs.Shapes.{faces_of, log_of}

-- an object's id, and the ranges of its vertices and indices
pub record Span : Type 0 where
  pub id : ℕ
  pub vertex_start : ℕ
  pub vertex_end : ℕ
  pub index_start : ℕ
  pub index_end : ℕ

pub record Account : Type 0 where
  pub offered : ℕ
  pub kept : ℕ
  pub thin : ℕ
  pub entries : ℕ

pub record Mesh : Type 0 where
  pub vertices : List Point
  pub normals : List Vector
  pub indices : List ℕ
  pub spans : List Span

-- the triangles of an object's faces that are kept, and those that are thin
unfoldable pub kept_by : Float → Shape → ℕ
kept_by limit s = sum_of (λ f. length (kept_of limit f)) (faces_of s)

unfoldable pub thin_by : Float → Shape → ℕ
thin_by limit s = sum_of (thin_in limit) (faces_of s)

unfoldable pub account_of : Float → Object → Account
account_of limit o = record { offered = offered o.shape; kept = kept_by limit o.shape; thin = thin_by limit o.shape; entries = length (log_of o.shape) }

-- what an object writes, its first vertex being number v
unfoldable pub piece_of : Float → ℕ → Object → Piece
piece_of limit v o = write_faces limit v (faces_of o.shape)

-- an object's span, v and i being the vertices and indices before it: none where it has no indices
unfoldable pub span_of : ℕ → ℕ → ℕ → Piece → List Span
span_of id v i p =
    let n = length p.indices in
    cond (eqb n 0) [] (record { id = id; vertex_start = v; vertex_end = v + length p.vertices; index_start = i; index_end = i + n } ∷ [])

unfoldable pub add_piece : Piece → List Span → Mesh → Mesh
add_piece p spans m =
    record { vertices = p.vertices ++ m.vertices; normals = p.normals ++ m.normals; indices = p.indices ++ m.indices; spans = spans ++ m.spans }

-- the mesh of the objects, v vertices and i indices standing before them
unfoldable pub mesh_from : Float → ℕ → ℕ → List Object → Mesh
mesh_from limit v i [] = record { vertices = []; normals = []; indices = []; spans = [] }
mesh_from limit v i (o ∷ os) =
    let p = piece_of limit v o in
    add_piece p (span_of o.id v i p) (mesh_from limit (v + length p.vertices) (i + length p.indices) os)

unfoldable pub mesh_of : Float → List Object → Mesh
mesh_of limit os = mesh_from limit 0 0 os

unfoldable pub accounts_of : Float → List Object → List Account
accounts_of limit os = map (account_of limit) os

unfoldable pub logs_of : List Object → List Entry
logs_of os = join (λ (o : Object). log_of o.shape) os

-- ---- spans and accounts as numbers in the lent buffers, so many to one

abbrev pub span_width : ℕ
span_width = 5

abbrev pub span_record : Span → List ℕ
span_record s = s.id ∷ s.vertex_start ∷ s.vertex_end ∷ s.index_start ∷ s.index_end ∷ []

unfoldable pub span_numbers : List Span → List ℕ
span_numbers ss = join span_record ss

abbrev pub account_width : ℕ
account_width = 4

abbrev pub account_record : Account → List ℕ
account_record a = a.offered ∷ a.kept ∷ a.thin ∷ a.entries ∷ []

unfoldable pub account_numbers : List Account → List ℕ
account_numbers list = join account_record list

-- and read back

abbrev pub span_at : List ℕ → ℕ → Span
span_at ns k =
    let i = span_width * k in
    record { id = get_or ns i 0; vertex_start = get_or ns (i + 1) 0; vertex_end = get_or ns (i + 2) 0; index_start = get_or ns (i + 3) 0; index_end = get_or ns (i + 4) 0 }

unfoldable pub spans_in : List ℕ → List Span
spans_in ns = list (span_at ns) (length ns / span_width) 0

abbrev pub account_at : List ℕ → ℕ → Account
account_at ns k =
    let i = account_width * k in
    record { offered = get_or ns i 0; kept = get_or ns (i + 1) 0; thin = get_or ns (i + 2) 0; entries = get_or ns (i + 3) 0 }

unfoldable pub accounts_in : List ℕ → List Account
accounts_in ns = list (account_at ns) (length ns / account_width) 0
