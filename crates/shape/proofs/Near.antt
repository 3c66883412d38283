-- The places that the shapes compute are within bounds, for a scene's numbers. Assumes nothing.
use Prim.Native.Nat.{ℕ, ◌+◌, ◌<◌}
use native.Mathlib.Omega.{arith}
use lib.Dec.{lit≤}
use lib.Ieee.{Float, binary32, sub, of_bits}
use Rattle.lists.specs.Each.{Each}
use Rattle.float.specs.Number.{◌-f◌, zerof, onef, halff}
use Rattle.coords.specs.declared.Point.{Point}
use Rattle.coords_vector.specs.declared.Vector.{Vector}
use Rattle.object.specs.declared.Section.{Section}
use Rattle.object.specs.declared.Orientation.{Orientation}
use Rattle.shape.specs.Shapes.{box_point, ring_point, ring_at, ellipse_point, ellipse}
use Rattle.lists.proofs.Lists.{each_list}
use Rattle.float.proofs.Within.{Within, mul_within}
use Rattle.coords.proofs.Near.{NearP, NearV, near_p_up, diff_near, moved_near, scale_near, middle_near}
use Rattle.angle_circle.proofs.Units.{sine_within, cosine_within}
use Rattle.object.proofs.Near.{Paired, NearS, frame_near}

zero_within : Within 1 0 zerof
unfolding of_bits
zero_within = record { known = tt; small = lit≤ tt }

-- an end of a box along an axis: 0 or 1
pub record End (a : Float) : Type 0 where
  pub plain : Within 1 0 a
  pub centred : Within 1 0 (a -f halff)

pub end_zero : End zerof
unfolding of_bits
end_zero = record { plain = zero_within; centred = unfold sub in record { known = tt; small = lit≤ tt } }

pub end_one : End onef
unfolding of_bits
end_one = record { plain = record { known = tt; small = lit≤ tt }; centred = unfold sub in record { known = tt; small = lit≤ tt } }

pub box_near : (o : Point) (t : Orientation) (l w h a b c : Float) → NearP 1 24 o → Paired t → Within 1 24 l → Within 1 24 w → Within 1 24 h → End a → End b → End c → NearP 6 24 (box_point o t l w h a b c)
unfolding box_point
box_near o t l w h a b c n p L W H A B C =
    moved_near 6 24 n (frame_near t _ _ _ p (mul_within binary32 1 24 A.centred L tt) (mul_within binary32 1 24 B.centred W tt) (mul_within binary32 1 24 C.plain H tt)) tt

pub ring_near : (o : Point) (t : Orientation) (r z : Float) → NearP 1 24 o → Paired t → Within 1 24 r → Within 1 24 z → (k : ℕ) → k < 16 → NearP 6 24 (ring_point o t r z k)
unfolding ring_point
ring_near o t r z n p R Z k h =
    moved_near 6 24 n (frame_near t _ _ _ p (mul_within binary32 1 24 R (cosine_within k h) tt) (mul_within binary32 1 24 R (sine_within k h) tt) Z) tt

-- ---- ellipses
from_zero : (i n : ℕ) → i < 0 + n → i < n
from_zero i n h = omega arith

pub ring_at_near : (o : Point) (t : Orientation) (r z : Float) → NearP 1 24 o → Paired t → Within 1 24 r → Within 1 24 z → Each (NearP 6 24) (ring_at o t r z)
unfolding ring_at
ring_at_near o t r z n p R Z = each_list (NearP 6 24) (ring_point o t r z) 16 0 (λ i a b. near_p_up (ring_near o t r z n p R Z i (from_zero i 16 b)) tt)

point_near : {c : Point} {v w : Vector} (k : ℕ) → k < 16 → NearP 1 24 c → NearV 2 24 v → NearV 2 24 w → NearP 5 24 (ellipse_point c v w k)
unfolding ellipse_point
point_near k h c v w = moved_near 5 24 (moved_near 3 24 c (scale_near 2 24 v (cosine_within k h) tt) tt) (scale_near 2 24 w (sine_within k h) tt) tt

pub ellipse_near : (s : Section) → NearS 1 24 s → Each (NearP 6 24) (ellipse s).ring
unfolding ellipse
ellipse_near s n =
    let c = middle_near n.left.base n.right.top in
    let across = diff_near 2 24 (middle_near n.left.base n.left.top) c tt in
    let up = diff_near 2 24 (middle_near n.left.top n.right.top) c tt in
    each_list (NearP 6 24) _ 16 0 (λ i a b. near_p_up (point_near i (from_zero i 16 b) c across up) tt)
