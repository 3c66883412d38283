-- Document 01, sections 2 (row 11) and 7, and `Mesh::validate`: the verdict on a mesh, at a limit below which a triangle is thin.
use Rattle.std.specs.Prelude.{ℕ, suc, ◌%◌, cond, List, [], ◌∷◌, length, leb, eqb, Float, Option, Some, None, Ok, Err}
use Rattle.lists.specs.Loops.{first}
use Rattle.float.specs.Number.{min_area}
use Rattle.coords.specs.declared.Point.{Point}
use Rattle.coords.specs.Buffers.{vertices_in}
unfoldable pub use Rattle.validate.specs.Faults.{degenerate}
pub use Rattle.validate.specs.Faults.{not_finite}
use Rattle.refusal.specs.declared.Refusal.TheVariants.{PartialVertex}
use Rattle.validate.specs.declared.MeshError.TheVariants.{Empty, NonFiniteVertex, IndexOutOfRange, DegenerateTriangle}
use Rattle.validate.specs.Verdict.{Verdict, Validation}

-- the triangles from number t on
unfoldable pub triangles_from : Float → List Point → ℕ → List ℕ → Verdict
triangles_from limit vs t [] = Ok tt
triangles_from limit vs t (a ∷ []) = let n = length vs in cond (leb n a) (Err (IndexOutOfRange t a n)) (Err (DegenerateTriangle t))
triangles_from limit vs t (a ∷ b ∷ []) =
    let n = length vs in
    cond (leb n a) (Err (IndexOutOfRange t a n)) (cond (leb n b) (Err (IndexOutOfRange t b n)) (Err (DegenerateTriangle t)))
triangles_from limit vs t (a ∷ b ∷ c ∷ rest) =
    let n = length vs in
    let later = triangles_from limit vs (suc t) rest in
    cond (leb n a) (Err (IndexOutOfRange t a n))
    (cond (leb n b) (Err (IndexOutOfRange t b n))
    (cond (leb n c) (Err (IndexOutOfRange t c n))
    (cond (degenerate limit vs a b c) (Err (DegenerateTriangle t)) later)))

-- the vertices are looked at before the triangles
unfoldable pub verdict_at : Option ℕ → Verdict → Verdict
verdict_at (Some i) triangles = Err (NonFiniteVertex i)
verdict_at None triangles = triangles

unfoldable pub verdict : Float → List Point → List ℕ → Verdict
verdict limit vs is =
    let triangles = triangles_from limit vs 0 is in
    cond (eqb (length is) 0) (Err Empty) (verdict_at (first (not_finite vs) (length vs) 0) triangles)

-- ---- Validate, with its refusal: the verdict, or PartialVertex where the coordinates' number is no multiple of 3

unfoldable pub validate_at : Float → List Float → List ℕ → Validation
validate_at limit vertices indices = cond (eqb (length vertices % 3) 0) (Ok (verdict limit (vertices_in vertices) indices)) (Err PartialVertex)

unfoldable pub validate : List Float → List ℕ → Validation
validate vertices indices = validate_at min_area vertices indices
