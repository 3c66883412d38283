-- The numbers of an object within a scene's bounds, and `orient` on them. Assumes nothing.
use Prim.Native.Nat.{ℕ, ◌+◌, ◌*◌, ◌^◌, ◌≤◌}
use mathlib.Core.List.{map}
use lib.ListN.{length as size}
use lib.Dec.{T}
use lib.Ieee.{Float, binary32, binary64, add, sub, mul}
use Rattle.lists.specs.Each.{Each}
use Rattle.lists.specs.Loops.{sum_of}
use Rattle.float.specs.Number.{narrow}
use Rattle.object.specs.declared.Corner.{Corner}
use Rattle.object.specs.declared.Extent.{Extent}
use Rattle.object.specs.declared.Extent.TheVariants.{Box, Cylinder, Unsized}
use Rattle.object.specs.declared.Section.{Section}
use Rattle.object.specs.declared.Orientation.{Orientation}
use Rattle.object.specs.Limits.{most_corners}
use Rattle.object.specs.Object.{Shape, solid, outline, sweep, round_sweep, frame}
use Rattle.float.proofs.Within.{Within, covers, neg_within, add_within, sub_within, mul_within, convert_within}
use Rattle.coords.proofs.Near.{NearP, NearV}

-- ---- solids
pub record Paired (t : Orientation) : Type 0 where
  pub sh : Within 1 0 t.heading.sin
  pub ch : Within 1 0 t.heading.cos
  pub sp : Within 1 0 t.pitch.sin
  pub cp : Within 1 0 t.pitch.cos
  pub sr : Within 1 0 t.roll.sin
  pub cr : Within 1 0 t.roll.cos

narrowed : {q j : ℕ} (x : Float) (r k : ℕ) → Within q j x → T (covers binary32 (q * 2 ^ j) r k) → Within r k (narrow x)
narrowed x r k w t = convert_within binary32 r k w t

-- a sum and a difference of two products with numbers of at most 1, in f64
sum_of_lem : {a b c d : Float} {p i q j : ℕ} (r k : ℕ) → Within p i a → Within 1 0 b → Within q j c → Within 1 0 d
    → T (covers binary64 (p * 2 ^ i * (1 * 2 ^ 0)) p i) → T (covers binary64 (q * 2 ^ j * (1 * 2 ^ 0)) q j) → T (covers binary64 (p * 2 ^ i + q * 2 ^ j) r k)
    → Within r k (add binary64 (mul binary64 a b) (mul binary64 c d))
sum_of_lem {p = p} {i = i} {q = q} {j = j} r k a b c d s t u = add_within binary64 r k (mul_within binary64 p i a b s) (mul_within binary64 q j c d t) u

difference_of : {a b c d : Float} {p i q j : ℕ} (r k : ℕ) → Within p i a → Within 1 0 b → Within q j c → Within 1 0 d
    → T (covers binary64 (p * 2 ^ i * (1 * 2 ^ 0)) p i) → T (covers binary64 (q * 2 ^ j * (1 * 2 ^ 0)) q j) → T (covers binary64 (p * 2 ^ i + q * 2 ^ j) r k)
    → Within r k (sub binary64 (mul binary64 a b) (mul binary64 c d))
difference_of {p = p} {i = i} {q = q} {j = j} r k a b c d s t u = sub_within binary64 r k (mul_within binary64 p i a b s) (mul_within binary64 q j c d t) u

pub frame_near : (t : Orientation) (u v z : Float) → Paired t → Within 1 24 u → Within 1 24 v → Within 1 24 z → NearV 5 24 (frame t u v z)
unfolding frame
frame_near t u v z p a b c =
    let v1 = difference_of 2 24 b p.cr c p.sr tt tt tt in
    let z1 = sum_of_lem 2 24 b p.sr c p.cr tt tt tt in
    let u2 = sum_of_lem 3 24 a p.cp z1 p.sp tt tt tt in
    let z2 = sum_of_lem 5 24 (neg_within a) p.sp z1 p.cp tt tt tt in
    let u3 = difference_of 5 24 u2 p.ch v1 p.sh tt tt tt in
    let v3 = sum_of_lem 5 24 u2 p.sh v1 p.ch tt tt tt in
    record { x = narrowed _ 5 24 u3 tt; y = narrowed _ 5 24 v3 tt; z = narrowed _ 5 24 z2 tt }

-- ---- corners and sections
pub record NearC (q j : ℕ) (c : Corner) : Type 0 where
  pub base : NearP q j c.base
  pub top : NearP q j c.top

pub record NearS (q j : ℕ) (s : Section) : Type 0 where
  pub left : NearC q j s.left
  pub right : NearC q j s.right

-- ---- a scene's numbers
abbrev pub NearX : Extent → Type 0
NearX (Box l w h) = Within 1 24 l × Within 1 24 w × Within 1 24 h
NearX (Cylinder r h) = Within 1 24 r × Within 1 24 h
NearX Unsized = Unit {0}

abbrev pub NearShape : Shape → Type 0
NearShape (solid o t x) = NearP 1 24 o × Paired t × NearX x
NearShape (outline closed cs holes) = Each (NearC 1 24) cs × Each (Each (NearC 1 24)) holes × (size cs + sum_of (λ k. k) (map size holes) ≤ most_corners)
NearShape (sweep ss) = Each (NearS 1 24) ss
NearShape (round_sweep ss) = Each (NearS 1 24) ss
