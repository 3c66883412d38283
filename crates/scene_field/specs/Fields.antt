-- Document 01, section 1: fields of a scene's bytes where they lie, little-endian, and which numbers are allowed.
use Rattle.std.specs.Prelude.{ℕ, ◌+◌, ◌*◌, Bool, List, [], ◌∷◌, get_or, Float}
use Rattle.std.specs.Float.{binary32, binary64}
use Rattle.std.specs.Float.Ieee.{of_bits}
use Rattle.lists.specs.Loops.{every, list}
use Rattle.float.specs.Number.{allowed32, allowed64}
use Rattle.coords.specs.declared.Point.{Point}
use Rattle.coords.specs.Coords.{point}
use Rattle.object.specs.declared.Corner.{Corner}
use Rattle.object.specs.declared.Extent.{Extent}
use Rattle.object.specs.declared.Extent.TheVariants.{Box, Cylinder}
use Rattle.object.specs.declared.Pair.{Pair}
use Rattle.object.specs.declared.Section.{Section}
use Rattle.object.specs.declared.Orientation.{Orientation}
use Rattle.scene_field.specs.Layout.{corner_bytes, section_bytes}

unfoldable pub u16_at : List ℕ → ℕ → ℕ
u16_at s i = get_or s i 0 + 256 * get_or s (i + 1) 0

unfoldable pub u32_at : List ℕ → ℕ → ℕ
u32_at s i = u16_at s i + 65536 * u16_at s (i + 2)

unfoldable pub f32_at : List ℕ → ℕ → Float
f32_at s i = of_bits binary32 (u32_at s i)

unfoldable pub u64_at : List ℕ → ℕ → ℕ
u64_at s i = u32_at s i + 4294967296 * u32_at s (i + 4)

unfoldable pub f64_at : List ℕ → ℕ → Float
f64_at s i = of_bits binary64 (u64_at s i)

unfoldable pub point_at : List ℕ → ℕ → Point
point_at s i = point (f32_at s i) (f32_at s (i + 4)) (f32_at s (i + 8))

unfoldable pub corner_at : List ℕ → ℕ → Corner
corner_at s i = record { base = point_at s i; top = point_at s (i + 12) }

unfoldable pub section_at : List ℕ → ℕ → Section
section_at s i = record { left = corner_at s i; right = corner_at s (i + corner_bytes) }

unfoldable pub pair_at : List ℕ → ℕ → Pair
pair_at s i = record { sin = f64_at s i; cos = f64_at s (i + 8) }

unfoldable pub orientation_at : List ℕ → ℕ → Orientation
orientation_at s i = record { heading = pair_at s i; pitch = pair_at s (i + 16); roll = pair_at s (i + 32) }

-- the sizes of a box and of a cylinder
abbrev pub box_at : List ℕ → ℕ → Extent
box_at s i = Box (f32_at s i) (f32_at s (i + 4)) (f32_at s (i + 8))

abbrev pub cylinder_at : List ℕ → ℕ → Extent
cylinder_at s i = Cylinder (f32_at s i) (f32_at s (i + 4))

-- n corners, n sections and n u16 from place i on
unfoldable pub corners_at : List ℕ → ℕ → ℕ → List Corner
corners_at s n i = list (λ k. corner_at s (i + corner_bytes * k)) n 0

unfoldable pub sections_at : List ℕ → ℕ → ℕ → List Section
sections_at s n i = list (λ k. section_at s (i + section_bytes * k)) n 0

unfoldable pub counts_at : List ℕ → ℕ → ℕ → List ℕ
counts_at s n i = list (λ k. u16_at s (i + 2 * k)) n 0

-- the corners of each hole, one hole behind the other from place i on
unfoldable pub holes_at : List ℕ → List ℕ → ℕ → List (List Corner)
holes_at s [] i = []
holes_at s (c ∷ cs) i = corners_at s c i ∷ holes_at s cs (i + corner_bytes * c)

-- n numbers from place i on are allowed
unfoldable pub all32 : List ℕ → ℕ → ℕ → Bool
all32 s n i = every (λ x. allowed32 x) (list (λ k. f32_at s (i + 4 * k)) n 0)

unfoldable pub all64 : List ℕ → ℕ → ℕ → Bool
all64 s n i = every (λ x. allowed64 x) (list (λ k. f64_at s (i + 8 * k)) n 0)
