-- Places and displacements within bounds. Assumes nothing.
use Rattle.std.proofs.Common.{ℕ, ◌+◌, ◌*◌, ◌^◌, T, leb, lit≤}
use lib.Ieee.{Float, binary32, of_bits}
use Rattle.float.specs.Number.{halff}
use Rattle.coords.specs.declared.Point.{Point}
use Rattle.coords_vector.specs.declared.Vector.{Vector}
use Rattle.coords_vector.specs.Vectors.{zero_v, unit_x, unit_z, plus, less, negate, dot, cross, scale}
use Rattle.coords.specs.Coords.{origin, diff, moved, lerp}
use Rattle.float.proofs.Middle.{middle_within}
use Rattle.float.proofs.Within.{Within, covers, within_up, neg_within, add_within, sub_within, mul_within}

-- ---- places and displacements
pub record NearP (q j : ℕ) (p : Point) : Type 0 where
  pub x : Within q j p.x
  pub y : Within q j p.y
  pub z : Within q j p.z

pub record NearV (q j : ℕ) (v : Vector) : Type 0 where
  pub x : Within q j v.x
  pub y : Within q j v.y
  pub z : Within q j v.z

pub near_p_up : {q j r k : ℕ} {p : Point} → NearP q j p → T (leb (q * 2 ^ j) (r * 2 ^ k)) → NearP r k p
near_p_up n t = record { x = within_up n.x t; y = within_up n.y t; z = within_up n.z t }

pub origin_near : NearP 6 24 origin
unfolding of_bits
origin_near = record { x = record { known = tt; small = lit≤ tt }; y = record { known = tt; small = lit≤ tt }; z = record { known = tt; small = lit≤ tt } }

pub diff_near : {p i q j : ℕ} {a b : Point} (r k : ℕ) → NearP p i a → NearP q j b → T (covers binary32 (p * 2 ^ i + q * 2 ^ j) r k) → NearV r k (diff a b)
unfolding diff
diff_near r k m n t = record { x = sub_within binary32 r k m.x n.x t; y = sub_within binary32 r k m.y n.y t; z = sub_within binary32 r k m.z n.z t }

pub moved_near : {p i q j : ℕ} {a : Point} {v : Vector} (r k : ℕ) → NearP p i a → NearV q j v → T (covers binary32 (p * 2 ^ i + q * 2 ^ j) r k) → NearP r k (moved a v)
unfolding moved
moved_near r k m n t = record { x = add_within binary32 r k m.x n.x t; y = add_within binary32 r k m.y n.y t; z = add_within binary32 r k m.z n.z t }

pub scale_near : {p i q j : ℕ} {v : Vector} {k : Float} (r l : ℕ) → NearV p i v → Within q j k → T (covers binary32 (p * 2 ^ i * (q * 2 ^ j)) r l) → NearV r l (scale v k)
unfolding scale
scale_near r l n w t = record { x = mul_within binary32 r l n.x w t; y = mul_within binary32 r l n.y w t; z = mul_within binary32 r l n.z w t }

pub near_v_up : {q j r k : ℕ} {v : Vector} → NearV q j v → T (leb (q * 2 ^ j) (r * 2 ^ k)) → NearV r k v
near_v_up n t = record { x = within_up n.x t; y = within_up n.y t; z = within_up n.z t }

pub plus_near : {p i q j : ℕ} {v w : Vector} (r k : ℕ) → NearV p i v → NearV q j w → T (covers binary32 (p * 2 ^ i + q * 2 ^ j) r k) → NearV r k (plus v w)
unfolding plus
plus_near r k m n t = record { x = add_within binary32 r k m.x n.x t; y = add_within binary32 r k m.y n.y t; z = add_within binary32 r k m.z n.z t }

pub less_near : {p i q j : ℕ} {v w : Vector} (r k : ℕ) → NearV p i v → NearV q j w → T (covers binary32 (p * 2 ^ i + q * 2 ^ j) r k) → NearV r k (less v w)
unfolding less
less_near r k m n t = record { x = sub_within binary32 r k m.x n.x t; y = sub_within binary32 r k m.y n.y t; z = sub_within binary32 r k m.z n.z t }

pub opposite_near : {q j : ℕ} {v : Vector} → NearV q j v → NearV q j (negate v)
unfolding negate
opposite_near n = record { x = neg_within n.x; y = neg_within n.y; z = neg_within n.z }

-- each product is at most a * 2 ^ h
pub dot_within : {p i q j : ℕ} {v w : Vector} (a h r k : ℕ) → NearV p i v → NearV q j w → T (covers binary32 (p * 2 ^ i * (q * 2 ^ j)) a h) → T (covers binary32 (a * 2 ^ h + a * 2 ^ h) (2 * a) h)
    → T (covers binary32 (2 * a * 2 ^ h + a * 2 ^ h) r k) → Within r k (dot v w)
unfolding dot
dot_within a h r k m n s t u = add_within binary32 r k (add_within binary32 (2 * a) h (mul_within binary32 a h m.x n.x s) (mul_within binary32 a h m.y n.y s) t) (mul_within binary32 a h m.z n.z s) u

pub cross_near : {p i q j : ℕ} {v w : Vector} (a h r k : ℕ) → NearV p i v → NearV q j w → T (covers binary32 (p * 2 ^ i * (q * 2 ^ j)) a h) → T (covers binary32 (a * 2 ^ h + a * 2 ^ h) r k) → NearV r k (cross v w)
unfolding cross
cross_near a h r k m n s t =
    record {
      x = sub_within binary32 r k (mul_within binary32 a h m.y n.z s) (mul_within binary32 a h m.z n.y s) t;
      y = sub_within binary32 r k (mul_within binary32 a h m.z n.x s) (mul_within binary32 a h m.x n.z s) t;
      z = sub_within binary32 r k (mul_within binary32 a h m.x n.y s) (mul_within binary32 a h m.y n.x s) t;
    }

pub zero_near : NearV 0 0 zero_v
unfolding of_bits
zero_near = record { x = record { known = tt; small = lit≤ tt }; y = record { known = tt; small = lit≤ tt }; z = record { known = tt; small = lit≤ tt } }

pub unit_x_near : NearV 1 0 unit_x
unfolding of_bits
unit_x_near = record { x = record { known = tt; small = lit≤ tt }; y = record { known = tt; small = lit≤ tt }; z = record { known = tt; small = lit≤ tt } }

pub unit_z_near : NearV 1 0 unit_z
unfolding of_bits
unit_z_near = record { x = record { known = tt; small = lit≤ tt }; y = record { known = tt; small = lit≤ tt }; z = record { known = tt; small = lit≤ tt } }

-- the middle of two places
pub middle_near : {a b : Point} → NearP 1 24 a → NearP 1 24 b → NearP 1 24 (lerp a b halff)
unfolding lerp moved scale diff of_bits
middle_near {a} {b} m n = record { x = middle_within a.x b.x m.x n.x; y = middle_within a.y b.y m.y n.y; z = middle_within a.z b.z m.z n.z }
