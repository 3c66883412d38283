-- Document 01, section 1: the limits of a scene, and how many bytes its fields take. Definitions only.
use Rattle.std.specs.Prelude.{ℕ, ◌+◌}
-- the limits of an outline
pub use Rattle.object.specs.Limits.{most_holes, most_corners}

-- ---- limits

-- of the bytes and the objects of a scene
abbrev pub most_bytes : ℕ
most_bytes = 16777216

abbrev pub most_objects : ℕ
most_objects = 65536

-- of the sections of a sweep
abbrev pub most_sections : ℕ
most_sections = 4096

-- ---- bytes

-- a corner: its base and its top, 6 f32
abbrev pub corner_bytes : ℕ
corner_bytes = 24

-- a section: two corners
abbrev pub section_bytes : ℕ
section_bytes = 48

-- a solid's position: 3 f32
abbrev pub position_bytes : ℕ
position_bytes = 12

-- its orientation: 6 f64
abbrev pub orientation_bytes : ℕ
orientation_bytes = 48

-- where its orientation and its sizes stand, its position standing at place i
abbrev pub orientation_from : ℕ → ℕ
orientation_from i = i + position_bytes

abbrev pub sizes_from : ℕ → ℕ
sizes_from i = i + (position_bytes + orientation_bytes)
