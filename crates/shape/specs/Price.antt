-- Document 01, section 5: the price list, the number of triangles offered for each shape, as a formula of its own.
use Rattle.std.specs.Prelude.{ℕ, ◌+◌, ◌-◌, ◌*◌, Bool, true, false, ◌&&◌, cond, List, [], ◌∷◌, length, Float}
use Rattle.std.specs.Float.Ieee.{lt, eq}
use Rattle.lists.specs.Loops.{sum_of}
use Rattle.float.specs.Number.{zerof}
use Rattle.object.specs.declared.Corner.{Corner}
use Rattle.object.specs.declared.Extent.{Extent}
use Rattle.object.specs.declared.Extent.TheVariants.{Box, Cylinder, Unsized}
use Rattle.object.specs.declared.Section.{Section}
use Rattle.object.specs.Object.{Shape, solid, outline, sweep, round_sweep}
use Rattle.lid.specs.Lid.{lid_price}
use Rattle.shape.specs.Shapes.{all_corners, flat_of, outline_lid, has_height, is_widthless_section, is_flat_section}

-- 2 for a size of zero, of either sign
unfoldable pub less_for : Float → ℕ
less_for x = cond (eq x zerof) 2 0

unfoldable pub solid_price : Extent → ℕ
solid_price (Box l w h) = 12 - (less_for l + less_for w + less_for h)
solid_price (Cylinder r h) = cond (lt zerof h) 60 46
solid_price Unsized = 0

unfoldable pub outline_price : Bool → List Corner → List (List Corner) → ℕ
outline_price false cs holes = 2 * (length cs - 1) + 2 * sum_of length holes
outline_price true cs holes =
    let t = lid_price (flat_of cs holes) (outline_lid cs holes).log in
    2 * length cs + 2 * sum_of length holes + t + cond (has_height (all_corners cs holes)) t 0

-- a pair of sections: widthless goes first
unfoldable pub pair_price : Section → Section → ℕ
pair_price a b = cond (is_widthless_section a && is_widthless_section b) 2 (cond (is_flat_section a && is_flat_section b) 6 8)

unfoldable pub pairs_price : List Section → ℕ
pairs_price [] = 0
pairs_price (a ∷ []) = 0
pairs_price (a ∷ b ∷ rest) = pair_price a b + pairs_price (b ∷ rest)

-- n where there is any section
unfoldable pub caps_price : ℕ → List Section → ℕ
caps_price n [] = 0
caps_price n (s ∷ ss) = n

unfoldable pub offered : Shape → ℕ
offered (solid o t x) = solid_price x
offered (outline closed cs holes) = outline_price closed cs holes
offered (sweep ss) = pairs_price ss + caps_price 4 ss
offered (round_sweep ss) = 32 * (length ss - 1) + caps_price 28 ss
