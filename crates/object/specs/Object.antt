-- Document 01, sections 1 and 3, and `object.rs`: an object of a scene, and `orient`.
use Rattle.std.specs.Prelude.{ℕ, Bool, List, Float}
use Rattle.std.specs.Float.Ieee.{neg}
use Rattle.float.specs.Number.{◌+d◌, ◌-d◌, ◌*d◌, narrow}
use Rattle.coords.specs.declared.Point.{Point}
use Rattle.coords_vector.specs.declared.Vector.{Vector}
use Rattle.coords_vector.specs.Vectors.{vector}
use Rattle.object.specs.declared.Corner.{Corner}
use Rattle.object.specs.declared.Extent.{Extent}
use Rattle.object.specs.declared.Section.{Section}
use Rattle.object.specs.declared.Orientation.{Orientation}

-- a solid's position, turn and volume; an outline, closed or open, its outer corners and those of each hole; the sections of a sweep
pub data Shape : Type 0 where
  solid : Point → Orientation → Extent → Shape
  outline : Bool → List Corner → List (List Corner) → Shape
  sweep : List Section → Shape
  round_sweep : List Section → Shape

pub record Object : Type 0 where
  pub id : ℕ
  pub shape : Shape

-- `orient` in f64 with the scene's sines and cosines, each result narrowed to f32
unfoldable pub frame : Orientation → Float → Float → Float → Vector
frame t u v z =
    let v1 = v *d t.roll.cos -d z *d t.roll.sin in
    let z1 = v *d t.roll.sin +d z *d t.roll.cos in
    let u2 = u *d t.pitch.cos +d z1 *d t.pitch.sin in
    let z2 = neg u *d t.pitch.sin +d z1 *d t.pitch.cos in
    let u3 = u2 *d t.heading.cos -d v1 *d t.heading.sin in
    let v3 = u2 *d t.heading.sin +d v1 *d t.heading.cos in
    vector (narrow u3) (narrow v3) (narrow z2)
