-- `whole` loses nothing: an f32 that is ±a / c (`fin s m e` is a = m * up e over c = down e) is `whole` of it times 2 ^ -149. Assumes nothing.
use mathlib.Core.Path.{◌≡◌, refl, sym, ◌∙◌, ap, subst}
use mathlib.Core.Bool.{Bool, true, false, ◌&&◌, cond}
use Prim.Native.Nat.{ℕ, zero, suc, ◌-◌, ◌*◌, ◌/◌, ◌%◌, ◌^◌, ◌≤◌}
use native.Mathlib.Nat.{zero-mul, zero-div, mul_assoc, mul-one, div-one, not-le_of_lt, lt_of_not-le}
use native.Mathlib.Decide.{dec_le}
use native.Mathlib.Omega.{arith}
use lib.Dec.{T, leb, ltb, eqb, leb→le}
use lib.Pow.{pow-add, pow-lt, shl-shr}
use lib.IntN.{ℤ, pos, negsuc, neg_ℤ, ◌*ℤ◌}
use lib.Ieee.{Float, nan, inf, fin, binary32, up, down, fits, add, mul}
use lib.Ieee.Fits.{and_l, and_r, add-fits}
use mathlib.Core.List.{List, [], ◌∷◌, map}
use lib.ListN.{get_or}
use lib.Ieee.Positive.{num, den}
use Rattle.float.specs.Signs.{negative}
use Rattle.coords.specs.declared.Point.{Point}
use Rattle.coords_vector.specs.declared.Vector.{Vector}
use Rattle.coords_vector.specs.Vectors.{dot, cross}
use Rattle.coords.specs.Coords.{origin, diff}
use Rattle.lid.specs.declared.Flat.{Flat}
use Rattle.lid.specs.Areas.{whole}
use Rattle.lid_plane.specs.Plane.{first_axis, flatten}
use Rattle.lid.specs.Rings.{flat0, corner}
use Rattle.lid.proofs.Areas.Whole.{neg_mul}

-- n with the negative s, as a float has it: true is negative
abbrev pub signed : Bool → ℕ → ℤ
signed s n = cond s (neg_ℤ (pos n)) (pos n)

signed_mul : (s : Bool) (n d : ℕ) → signed s n *ℤ pos d ≡ signed s (n * d)
signed_mul true n d = neg_mul (pos n) (pos d)
signed_mul false n d = refl

-- a power of two that is no greater divides
below : (k L : ℕ) → 2 ^ k ≤ 2 ^ L → k ≤ L
below k L h = by (dec_le k L)
  where
    by : Dec (k ≤ L) → k ≤ L
    by (yes y) = y
    by (no n) = absurd (not-le_of_lt (pow-lt (lt_of_not-le n)) h)

divides : (a k L : ℕ) → 2 ^ k ≤ 2 ^ L → a * 2 ^ L / 2 ^ k * 2 ^ k ≡ a * 2 ^ L
divides a k L h = ap (λ (z : ℕ). z / 2 ^ k * 2 ^ k) e ∙ ap (λ (z : ℕ). z * 2 ^ k) (shl-shr (a * 2 ^ (L - k)) k) ∙ sym e
  where
    e : a * 2 ^ L ≡ a * 2 ^ (L - k) * 2 ^ k
    e = ap (λ (z : ℕ). a * 2 ^ z) (let l = below k L h in omega arith) ∙ ap (λ (z : ℕ). a * z) (pow-add 2 (L - k) k) ∙ sym (mul_assoc a (2 ^ (L - k)) (2 ^ k))

exact_quotient : (a : ℕ) (e : ℤ) → down e ≤ 2 ^ 149 → a * 2 ^ 149 / down e * down e ≡ a * 2 ^ 149
exact_quotient a (pos k) h = mul-one (a * 2 ^ 149 / 1) ∙ div-one (a * 2 ^ 149)
exact_quotient a (negsuc k) h = divides a (suc k) 149 h

small : (s : Bool) (m : ℕ) (e : ℤ) → T (fits binary32 (fin s (suc m) e)) → down e ≤ 2 ^ 149
unfolding fits
small s m e t =
    let a : Bool = eqb (suc m % 2) 1 in
    let b : Bool = ltb (suc m) (2 ^ 24) in
    let c : Bool = leb (down e) (2 ^ 149) in
    let d : Bool = ltb (suc m * up e) (2 ^ 128 * down e) in
    leb→le (down e) (2 ^ 149) (and_r (a && b) c (and_l (a && b && c) d t))

from : (s : Bool) (m : ℕ) (e : ℤ) → m * up e * 2 ^ 149 / down e * down e ≡ m * up e * 2 ^ 149
    → signed s (m * up e * 2 ^ 149 / down e) *ℤ pos (down e) ≡ signed s (m * up e) *ℤ pos (2 ^ 149)
from s m e h = signed_mul s (m * up e * 2 ^ 149 / down e) (down e) ∙ ap (signed s) h ∙ sym (signed_mul s (m * up e) (2 ^ 149))

-- whole x / 2 ^ 149 is the number that x is
pub whole_exact : (x : Float) → T (fits binary32 x) → whole x *ℤ pos (den x) ≡ signed (negative x) (num x) *ℤ pos (2 ^ 149)
unfolding whole
whole_exact nan t = refl
whole_exact (inf true) t = refl
whole_exact (inf false) t = refl
whole_exact (fin s zero e) t = from s zero e (subst (λ (u : ℕ). u * 2 ^ 149 / down e * down e ≡ u * 2 ^ 149) (sym (zero-mul (up e))) (ap (λ (z : ℕ). z * down e) (zero-div (down e)) ∙ zero-mul (down e)))
whole_exact (fin s (suc m) e) t = from s (suc m) e (exact_quotient (suc m * up e) e (small s m e t))

-- ---- the flat corners are f32, so `whole` of each of their coordinates is exact

dot_fits : (a b : Vector) → T (fits binary32 (dot a b))
unfolding dot
dot_fits a b = add-fits binary32 (add binary32 (mul binary32 a.x b.x) (mul binary32 a.y b.y)) (mul binary32 a.z b.z)

mapped_fits : (f : Point → Flat) → ((p : Point) → T (fits binary32 (f p).x) × T (fits binary32 (f p).y)) → (ps : List Point) (i : ℕ)
    → T (fits binary32 (get_or (map f ps) i flat0).x) × T (fits binary32 (get_or (map f ps) i flat0).y)
unfolding fits lib.Ieee.of_bits
mapped_fits f h [] i = (tt, tt)
mapped_fits f h (p ∷ ps) zero = h p
mapped_fits f h (p ∷ ps) (suc i) = mapped_fits f h ps i

pub flat_fits : (lid : Vector) (tops : List Point) (i : ℕ) → T (fits binary32 (corner (flatten lid tops) i).x) × T (fits binary32 (corner (flatten lid tops) i).y)
unfolding flatten corner
flat_fits lid tops i = mapped_fits _ (λ p. (dot_fits (diff p (get_or tops 0 origin)) (first_axis lid), dot_fits (diff p (get_or tops 0 origin)) (cross lid (first_axis lid)))) tops i
