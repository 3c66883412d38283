-- The square root keeps bounds from below: of what is at least (b / d)² the root is at least b / d, where the format holds b / d.
-- Assumes nothing.
use mathlib.Core.Path.{◌≡◌, refl, sym, ap, ◌∙◌, subst}
use Prim.Native.Nat.{ℕ, zero, suc, ◌+◌, ◌-◌, ◌*◌, ◌/◌, ◌%◌, ◌^◌, ◌≤◌, ◌<◌, zero-le, compare, Ordering}
use native.Mathlib.Nat.{le_trans, le_of_eq, lt_of_lt_of_le, lt_of_le_of_lt, lt_of_not-le, lt_irrefl, zero-lt-suc, zero-mul, mul_right_comm, mul-mul-mul_comm, mul-le-mul, mul-le-mul_right, mul-lt-mul_of_pos_right, le_of_mul-le-mul_right, mul-pos, le-div_iff_mul-le, div-lt_iff_lt-mul}
use native.Mathlib.Omega.{arith}
use mathlib.Core.Bool.{true, false, ◌&&◌, true≢false}
use lib.Dec.{T, leb, ltb, eqb, ltb→lt, lit≤}
use lib.Pow.{pow-add, pow_pos, pow-lt}
use lib.Ieee.{Float, nan, inf, fin, binary32, up, down, size, nearest, units, fits}
use lib.Ieee.Digits.{size-le}
use lib.Ieee.Fits.{and_r, down_pos, kept-lt, nearest-le}
use lib.Ieee.Exact.{HasValue, units_val}
use lib.Ieee.Nearest.{nearest-ge}
use lib.Ieee.Order.{drop, kept}
use lib.Ieee.Scale.{grid, overflow}
use Rattle.float.specs.Rounding.{root, root_of, square_root}
use Rattle.float.proofs.Rounded.{Holds}
use Rattle.float.proofs.Floor.{floor_of, grid_held, kept_le}
use Rattle.float.proofs.Least.{AtLeast, least_of}
use Rattle.float.proofs.Root.{root_is, square_le}

-- ---- the rounded root of a fraction below 2 ^ 128
module _ (a c : ℕ) (C : 0 < c) (top : a < 2 ^ 128 * c) where
  n : ℕ
  n = a * 2 ^ (149 + 149)

  w : ℕ
  w = root (n / c)

  k : ℕ
  k = size w - 24

  q : ℕ
  q = w / 2 ^ k

  side : Ordering
  side = compare (4 * n) ((2 * q + 1) * 2 ^ k * ((2 * q + 1) * 2 ^ k) * c)

  kept_root : ℕ
  kept_root = nearest q side

  root_of_is : root_of binary32 a c ≡ units binary32 false kept_root k
  unfolding root_of kept_root side q k w n
  root_of_is = refl

  -- it does not overflow
  small : w < 2 ^ 213
  unfolding w n
  small = lt_of_not-le (λ (g : 2 ^ 213 ≤ root (n / c)). lt_irrefl (n / c) (lt_of_lt_of_le under (le_trans (mul-le-mul g g) (root_is (n / c)).0)))
    where
      under : n / c < 2 ^ 213 * 2 ^ 213
      under = (div-lt_iff_lt-mul C).1 (lt_of_lt_of_le (mul-lt-mul_of_pos_right top (pow_pos 298)) (le_of_eq (mul_right_comm (2 ^ 128) c (2 ^ 298))))

  fine : kept_root * 2 ^ k < overflow binary32
  unfolding kept_root q k
  fine =
      lt_of_le_of_lt (mul-le-mul_right (2 ^ k) (le_trans (nearest-le q side) (kept-lt 24 w)))
      (lt_of_le_of_lt (le_of_eq (sym (pow-add 2 24 k))) (pow-lt (below (size w) (size-le w 213 small))))
    where
      below : (z : ℕ) → z ≤ 213 → 24 + (z - 24) < 277
      below z h = omega arith

  value : HasValue (root_of binary32 a c) false (kept_root * 2 ^ k) (2 ^ 149)
  value = subst (λ (x : Float). HasValue x false (kept_root * 2 ^ k) (2 ^ 149)) (sym root_of_is) (units_val binary32 false kept_root k fine)

  module _ (b d : ℕ) (D : 0 < d) (v : Holds binary32 b d) (h : b * b * c ≤ a * (d * d)) where
    g : ℕ
    g = grid binary32 b d

    g_is : g * d ≡ b * 2 ^ 149
    unfolding g
    g_is = grid_held binary32 b d v

    -- in units of the smallest value, the square of b / d is at most the radicand
    square_under : g * g * c ≤ n
    unfolding n
    square_under =
        le_of_mul-le-mul_right
        (le_trans (le_of_eq left) (le_trans (mul-le-mul_right (2 ^ 149 * 2 ^ 149) h) (le_of_eq right))) (mul-pos D D)
      where
        left : g * g * c * (d * d) ≡ b * b * c * (2 ^ 149 * 2 ^ 149)
        left = mul_right_comm (g * g) c (d * d) ∙ ap (λ (x : ℕ). x * c) (mul-mul-mul_comm g g d d ∙ ap (λ (x : ℕ). x * x) g_is ∙ mul-mul-mul_comm b (2 ^ 149) b (2 ^ 149)) ∙ mul_right_comm (b * b) (2 ^ 149 * 2 ^ 149) c

        right : a * (d * d) * (2 ^ 149 * 2 ^ 149) ≡ a * 2 ^ (149 + 149) * (d * d)
        right = mul_right_comm a (d * d) (2 ^ 149 * 2 ^ 149)

    g_le : g ≤ w
    unfolding w
    g_le = square_le g (root (n / c)) (n / c) ((le-div_iff_mul-le C).1 square_under) (root_is (n / c)).1

    g_kept : g ≤ kept_root * 2 ^ k
    unfolding g kept_root q k
    g_kept =
        le_trans (floor_of 24 w (kept 24 (b * 2 ^ 149) d) (drop 24 (b * 2 ^ 149) d) (lit≤ tt) (kept_le 24 (b * 2 ^ 149) d) g_le)
        (mul-le-mul_right (2 ^ (size w - 24)) (nearest-ge (w / 2 ^ (size w - 24)) side))

    root_least : AtLeast b d (root_of binary32 a c)
    root_least = least_of (root_of binary32 a c) (kept_root * 2 ^ k) (2 ^ 149) b d (pow_pos 149) value (le_trans (le_of_eq (sym g_is)) (mul-le-mul_right d g_kept))

-- ---- the square root of f32
none : (b c : ℕ) → 0 < c → b * b * c ≤ 0 → b ≡ 0
none zero c C h = refl
none (suc b) c C h = absurd (lt_irrefl 0 (lt_of_lt_of_le (mul-pos (mul-pos (zero-lt-suc b) (zero-lt-suc b)) C) h))

pub square_root_least : (x : Float) (b d : ℕ) → T (fits binary32 x) → 0 < d → Holds binary32 b d → AtLeast (b * b) (d * d) x → AtLeast b d (square_root binary32 x)
unfolding square_root fits
square_root_least nan b d t D v g = absurd g.plain
square_root_least (inf s) b d t D v g = absurd g.plain
square_root_least (fin true zero e) b d t D v g = absurd (true≢false g.plain.0)
square_root_least (fin true (suc m) e) b d t D v g = absurd (true≢false g.plain.0)
square_root_least (fin false zero e) b d t D v g =
    record { plain = (refl, refl); large = le_trans (le_of_eq (ap (λ (z : ℕ). z * down e) (none b (down e) (down_pos e) (le_trans g.large (le_of_eq (ap (λ (z : ℕ). z * (d * d)) (zero-mul (up e)) ∙ zero-mul (d * d))))) ∙ zero-mul (down e))) zero-le }
square_root_least (fin false (suc m) e) b d t D v g =
    root_least (suc m * up e) (down e) (down_pos e) (ltb→lt (suc m * up e) (2 ^ 128 * down e) (and_r (eqb (suc m % 2) 1 && ltb (suc m) (2 ^ 24) && leb (down e) (2 ^ 149)) (ltb (suc m * up e) (2 ^ 128 * down e)) t)) b d D v g.large
