-- Document 01, section 6, and `lid_normal`: the plane of a closed outline's lid, and the corners flattened onto it.
use Rattle.std.specs.Prelude.{ℕ, cond, List, map, length, get_or, Float}
use Rattle.std.specs.Float.Ieee.{lt}
use Rattle.lists.specs.Loops.{next, loop, fold}
use Rattle.float.specs.Number.{zerof, halff, min_area}
use Rattle.float.specs.Signs.{magnitude, signum}
use Rattle.coords.specs.declared.Point.{Point}
use Rattle.coords_vector.specs.declared.Vector.{Vector}
use Rattle.coords_vector.specs.Vectors.{zero_v, unit_x, unit_z, plus, less, scale, negate, dot, cross, normalize_or}
use Rattle.coords.specs.Coords.{origin, diff}
use Rattle.object.specs.declared.Corner.{Corner}
use Rattle.lid.specs.declared.Flat.{Flat}

unfoldable pub tops_of : List Corner → List Point
tops_of cs = map (λ (c : Corner). c.top) cs

unfoldable pub bases_of : List Corner → List Point
bases_of cs = map (λ (c : Corner). c.base) cs

-- twice the vector area of a polygon, from its first corner
abbrev pub area_normal_step : List Point → ℕ → Vector → Vector
area_normal_step ps i sum =
    let p = get_or ps 0 origin in
    plus sum (cross (diff (get_or ps i origin) p) (diff (get_or ps (next (length ps) i) origin) p))

unfoldable pub area_normal : List Point → Vector
area_normal ps = loop (area_normal_step ps) (length ps) 0 zero_v

-- the corners' rises from base to top, added up
abbrev pub rise_step : Vector → Corner → Vector
rise_step sum c = plus sum (diff c.top c.base)

unfoldable pub rise : List Corner → Vector
rise cs = fold rise_step zero_v cs

-- which way the lid faces: away from the bases, or up where they coincide with the tops
unfoldable pub lid_side : Vector → Float → Vector
lid_side n away = cond (lt min_area (magnitude away)) (scale n (signum away)) (cond (lt n.z zerof) (negate n) n)

unfoldable pub lid_normal : List Corner → Vector
lid_normal cs = let n = normalize_or (area_normal (tops_of cs)) unit_z in lid_side n (dot n (rise cs))

-- the lid's normal or its reverse, whichever the ring of bases runs anticlockwise about
unfoldable pub about : List Corner → Vector → Vector
about cs lid = scale lid (signum (dot (area_normal (bases_of cs)) lid))

unfoldable pub first_axis : Vector → Vector
first_axis lid = let e = cond (lt halff (magnitude lid.z)) unit_x unit_z in normalize_or (less e (scale lid (dot e lid))) zero_v

-- all corners, by their coordinates from the first top on
unfoldable pub flatten : Vector → List Point → List Flat
flatten lid tops =
    let o = get_or tops 0 origin in
    let e1 = first_axis lid in
    let e2 = cross lid e1 in
    map (λ p. record { x = dot (diff p o) e1; y = dot (diff p o) e2 }) tops
