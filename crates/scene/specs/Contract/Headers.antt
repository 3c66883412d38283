-- What a header tells of the record that it was read from, and the object that it describes: document 01, section 1. Assumes nothing.
use Rattle.std.specs.Prelude.{◌≡◌, ℕ, ◌+◌, ◌-◌, ◌*◌, ◌≤◌, Bool, cond, true, false, List, length, get_or, eqb}
use Rattle.lists.specs.Loops.{sum_of}
use Rattle.object.specs.declared.Extent.{Extent}
use Rattle.object.specs.declared.Extent.TheVariants.{Box, Cylinder, Unsized}
use Rattle.object.specs.declared.Orientation.{Orientation}
use Rattle.object.specs.Object.{Shape, solid, outline, sweep, round_sweep, Object}
use Rattle.scene_field.specs.Layout.{most_holes, most_corners, most_sections, corner_bytes, section_bytes, position_bytes, orientation_bytes, orientation_from, sizes_from}
use Rattle.scene_field.specs.Fields.{u16_at, u32_at, point_at, orientation_at, box_at, cylinder_at, corners_at, sections_at, counts_at, holes_at}
use Rattle.scene.specs.declared.headers.SolidAt.{SolidAt}
use Rattle.scene.specs.declared.headers.Body.{Body}
use Rattle.scene.specs.declared.headers.Body.TheVariants.{Solid, Outline, Sweep}
use Rattle.scene.specs.declared.headers.Header.{Header}

-- In all of these i is the place behind the record's kind and id, unless it says otherwise.

-- a solid of these sizes, its position at place i
abbrev pub solid_from : ℕ → Extent → SolidAt
solid_from i x = record { position = i; orientation = orientation_from i; sizes = sizes_from i; extent = x }

-- an outline, its counts at place i
abbrev pub corner_count : List ℕ → ℕ → ℕ → ℕ → ℕ
corner_count s i outer holes = outer + sum_of (λ k. k) (counts_at s holes (i + 4))

abbrev pub outline_from : List ℕ → ℕ → Bool → Body
outline_from s i closed = Outline closed (u16_at s i) (u16_at s (i + 2)) (corner_count s i (u16_at s i) (u16_at s (i + 2)))

-- The body of a record of a kind. A kind above 6, which no accepted scene has, reads as 6.
unfoldable pub body_at : List ℕ → ℕ → ℕ → Body
body_at s i kind =
    cond (eqb kind 0) (Solid (solid_from i Unsized))
    (cond (eqb kind 1) (Solid (solid_from i (box_at s (sizes_from i))))
    (cond (eqb kind 2) (Solid (solid_from i (cylinder_at s (sizes_from i))))
    (cond (eqb kind 3) (outline_from s i false)
    (cond (eqb kind 4) (outline_from s i true)
    (cond (eqb kind 5) (Sweep false (u16_at s i))
    (Sweep true (u16_at s i)))))))

-- the bytes of a solid's sizes
abbrev pub volume_size : Extent → ℕ
volume_size (Box l w h) = 12
volume_size (Cylinder r h) = 8
volume_size Unsized = 0

-- the bytes behind the kind and the id
abbrev pub body_size : Body → ℕ
body_size (Solid p) = p.sizes - p.position + volume_size p.extent
body_size (Outline closed outer holes corners) = 4 + 2 * holes + corner_bytes * corners
body_size (Sweep round sections) = 2 + section_bytes * sections

abbrev pub header_of : ℕ → Body → Header
header_of id body = record { id = id; body = body; size = 5 + body_size body }

-- the header of the record that begins at place i
unfoldable pub header_at : List ℕ → ℕ → Header
header_at s i = header_of (u32_at s (i + 1)) (body_at s (i + 5) (get_or s i 0))

-- n sections from place `at` on, as a sweep or a round one
abbrev pub sections_shape : List ℕ → ℕ → Bool → ℕ → Shape
sections_shape s at round n = cond round (round_sweep (sections_at s n at)) (sweep (sections_at s n at))

-- a solid's orientation, read from the scene
abbrev pub orientation_of : List ℕ → SolidAt → Orientation
orientation_of s p = orientation_at s p.orientation

-- the shape that a body tells of, its position and orientation, corners or sections read from the scene
abbrev pub shape_of : List ℕ → ℕ → Body → Shape
shape_of s i (Solid p) = solid (point_at s p.position) (orientation_of s p) p.extent
shape_of s i (Outline closed outer holes corners) =
    outline closed (corners_at s outer (i + 4 + 2 * holes)) (holes_at s (counts_at s holes (i + 4)) (i + 4 + 2 * holes + corner_bytes * outer))
shape_of s i (Sweep round sections) = sections_shape s (i + 2) round sections

-- the object that a header tells of, its record beginning at place i
abbrev pub object_of : List ℕ → ℕ → Header → Object
object_of s i h = record { id = h.id; shape = shape_of s (i + 5) h.body }

-- a solid's position stands at place i, its orientation behind it, and its sizes behind that
pub record Laid (i : ℕ) (p : SolidAt) : Type 0 where
  pub position : p.position ≡ i
  pub orientation : p.position + position_bytes ≤ p.orientation
  pub sizes : p.orientation + orientation_bytes ≤ p.sizes

-- an outline's corners are counted, and within the limits of document 01, section 1
pub record CornersCounted (s : List ℕ) (i outer holes corners : ℕ) : Type 0 where
  pub total : corners ≡ corner_count s i outer holes
  pub few : holes ≤ most_holes
  pub most : corners ≤ most_corners

-- what holds of a body that was read from an accepted scene
abbrev pub Limits : List ℕ → ℕ → Body → Type 0
Limits s i (Solid p) = Laid i p
Limits s i (Outline closed outer holes corners) = CornersCounted s i outer holes corners
Limits s i (Sweep round sections) = sections ≤ most_sections

-- a solid's position and orientation lie in the bytes
pub record SolidIn (s : List ℕ) (p : SolidAt) : Type 0 where
  pub position : p.position + position_bytes ≤ length s
  pub orientation : p.orientation + orientation_bytes ≤ length s
