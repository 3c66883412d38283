-- What objects come to, measured or at most, all together or those with lids and the others apart, because measuring a lid takes cutting it.
-- proofs/Bounds shows that each such sum is enough, proofs/Exact that with all objects measured it is what they come to. Definitions only.
use Rattle.std.specs.Prelude.{ℕ, ◌*◌, ◌≤◌, Bool, true, false, not, cond, List, length, Float}
use Rattle.object.specs.Object.{Shape, solid, outline, sweep, round_sweep, Object}
use Rattle.scene_field.specs.Layout.{most_bytes, most_objects}
use Rattle.face.specs.Faces.{write_faces}
use Rattle.shape.specs.Shapes.{faces_of, log_of}
use Rattle.mesh.specs.Mesh.{kept_by}
use Rattle.mesh_bound.specs.declared.Most.{Most}
use Rattle.mesh_bound.specs.declared.Group.{Group}
use Rattle.mesh_bound.specs.declared.Group.TheVariants.{All, Lids, Others}
use Rattle.mesh_bound.specs.declared.Counting.{Counting}
use Rattle.mesh_bound.specs.declared.Counting.TheVariants.{Exact, Highest}
use Rattle.mesh_bound.specs.Most.{of_shape, most_of, nothing, of_all}

-- what the shape comes to at a limit
unfoldable pub exact_of : Float → Shape → Most
exact_of limit sh = of_shape (length (write_faces limit 0 (faces_of sh)).vertices) (kept_by limit sh) (length (log_of sh))

unfoldable pub has_lid : Shape → Bool
has_lid (solid o t x) = false
has_lid (outline closed cs holes) = closed
has_lid (sweep ss) = false
has_lid (round_sweep ss) = false

unfoldable pub in_group : Group → Shape → Bool
in_group All sh = true
in_group Lids sh = has_lid sh
in_group Others sh = not (has_lid sh)

-- what the shape comes to, or the most of it
unfoldable pub counted_by : Counting → Float → Shape → Most
counted_by Exact limit sh = exact_of limit sh
counted_by Highest limit sh = most_of sh

-- nothing for one that is not in the group
unfoldable pub bound_in : Group → Counting → Float → Shape → Most
bound_in group counting limit sh = cond (in_group group sh) (counted_by counting limit sh) nothing

unfoldable pub bound_of_all : Group → Counting → Float → List Object → Most
bound_of_all group counting limit os = of_all (bound_in group counting limit) os

-- ---- all of it fits the program's numbers

-- n objects in so many bytes come to no more than this
pub record Few (m : Most) (bytes n : ℕ) : Type 0 where
  pub vertices : m.vertices ≤ 2 * bytes
  pub triangles : m.triangles ≤ 3 * bytes
  pub spans : m.spans ≤ n
  pub entries : m.entries ≤ 2 * bytes

-- what two groups of a scene's objects come to
abbrev pub FewOfBoth : Most → Type 0
FewOfBoth m = Few m (2 * most_bytes) (2 * most_objects)
