-- A vector's length is a number, and the parts of a unit vector are at most 2 in size, however short the vector was: so 1 / length does not overflow, and no part is a NaN. Assumes nothing.
use Rattle.std.proofs.Common.{◌≡◌, ℕ, zero, suc, ◌+◌, ◌-◌, ◌*◌, ◌/◌, ◌%◌, ◌^◌, ◌<◌, ◌≤◌, Bool, true, false, cond, ◌&&◌, T, eqb, ltb, leb, pos, sym, refl, ap, ◌∙◌, subst, inl, inr, zero-le, le_trans, le_of_eq, lt_of_le_of_lt, le_of_lt, lt_irrefl, mul-le-mul_right, zero-lt-suc, mul_assoc, mul_comm, div-lt_iff_lt-mul, eq-zero-or-pos, mul-lt-mul_of_pos_right, mul-pos, one-mul, le-div_iff_mul-le, zero-mul, mul_right_comm, arith, lit<, lit≤, leb→le, pow_pos, pow-add}
use lib.Ieee.{Float, nan, inf, fin, binary32, up, down, size, round, add, mul, div, fits, lt, of_bits}
use lib.Ieee.Digits.{size-lt, size-le, size_reaches}
use lib.Ieee.Fits.{and_l, and_r, add-fits}
use lib.Ieee.Scale.{finite}
use lib.Ieee.Positive.{num, den, den_pos}
use Rattle.float.specs.Number.{◌/f◌, zerof, onef, sqrt, is_finite}
use Rattle.coords.specs.declared.Point.{Point}
use Rattle.coords_vector.specs.declared.Vector.{Vector}
use Rattle.coords_vector.specs.Vectors.{cross, dot, scale, norm, normalize_or}
use Rattle.coords.specs.Coords.{diff}
use Rattle.float.proofs.Rounded.{Holds}
use Rattle.float.proofs.Within.{Within, add_within, mul_within}
use Rattle.float.proofs.Symmetry.{zero_is}
use Rattle.float.proofs.Least.{one, AtLeast, AtMost, holds_power, square_least, add_least, add_least_right, reciprocal_most, mul_most}
use Rattle.float.proofs.Rooted.{square_root_least}
use Rattle.coords.proofs.Near.{NearP, NearV, near_v_up, diff_near, cross_near}
use Rattle.coords.proofs.Turned.{sqrt_zero}

-- the square of a vector's length
abbrev squared : Vector → Float
squared v = add binary32 (add binary32 (mul binary32 v.x v.x) (mul binary32 v.y v.y)) (mul binary32 v.z v.z)

-- ---- a part c of a vector and the vector's length
-- the power of two at or below a number
halves : (z : ℕ) → 2 ^ z ≤ 2 * 2 ^ (z - 1)
halves zero = lit≤ tt
halves (suc z) = subst (λ (y : ℕ). 2 ^ suc z ≤ 2 * 2 ^ y) (sym (pred z)) (omega arith)
  where
    pred : (y : ℕ) → suc y - 1 ≡ y
    pred y = omega arith

-- c is below 2 * 2 ^ u / 2 ^ 75
binade : Float → ℕ
binade c = size (num c * 2 ^ 75 / den c) - 1

module _ (c : Float) where
  below_twice : T (finite c) → AtMost (2 * 2 ^ binade c) (2 ^ 75) c
  unfolding binade
  below_twice t =
      let n = num c * 2 ^ 75 / den c in
      record {
        known = t;
        small = le_trans (le_of_lt ((div-lt_iff_lt-mul (den_pos c)).0 (size-lt n))) (mul-le-mul_right (den c) (halves (size n)));
      }

  small_binade : Within 1 60 c → binade c ≤ 135
  unfolding binade
  small_binade w =
      let n = num c * 2 ^ 75 / den c in
      let h : num c * 2 ^ 75 < 2 ^ 136 * den c =
      lt_of_le_of_lt (mul-le-mul_right (2 ^ 75) w.small) (lt_of_le_of_lt (le_of_eq (mul_right_comm (2 ^ 60) (den c) (2 ^ 75))) (mul-lt-mul_of_pos_right (lit< {m = 2 ^ 60 * 2 ^ 75} {n = 2 ^ 136} tt) (den_pos c))) in
      less_one (size n) 136 (size-le n 136 ((div-lt_iff_lt-mul (den_pos c)).1 h))
    where
      less_one : (a b : ℕ) → a ≤ b → a - 1 ≤ b - 1
      less_one a b l = omega arith

  -- at a binade above the least, c is at least 2 ^ u / 2 ^ 75
  above_once : 0 < binade c → 2 ^ binade c * den c ≤ num c * 2 ^ 75
  unfolding binade
  above_once h = let n = num c * 2 ^ 75 / den c in (le-div_iff_mul-le (den_pos c)).0 (size_reaches n (size n - 1) (pred_less (size n) h))
    where
      pred_less : (z : ℕ) → 0 < z - 1 → z - 1 < z
      pred_less z l = omega arith

-- u is the binade of c: if the length is 2 ^ u / 2 ^ 75 at least, c / length is at most 2
over_length : (c len : Float) → T (finite c) → (binade c ≤ 135) → AtLeast (2 ^ binade c) (2 ^ 75) len → Within 2 0 (mul binary32 c (div binary32 one len))
over_length c len t h g =
    let u = binade c in
    mul_most binary32 2 2 0 c (div binary32 one len) (pow_pos 75) (pow_pos u) (le_of_eq (mul_assoc 2 (2 ^ u) (2 ^ 75) ∙ ap (λ (z : ℕ). 2 * z) (mul_comm (2 ^ u) (2 ^ 75)))) tt
    (below_twice c t) (reciprocal_most binary32 len (pow_pos u) (holds_power binary32 75 u (omega arith) (omega arith)) g)

holds_squares : (u : ℕ) → 0 < u → u ≤ 135 → Holds binary32 (2 ^ u * 2 ^ u) (2 ^ 75 * 2 ^ 75)
holds_squares u h k = subst (λ (z : ℕ). Holds binary32 z (2 ^ 75 * 2 ^ 75)) (pow-add 2 u u) (holds_power binary32 (u + u) 150 (omega arith) (omega arith))

-- ---- the squares of the parts, and their sum
holds_zero : Holds binary32 0 1
unfolding round
holds_zero = (refl, refl)

square_plain : (x : Float) → T (finite x) → T (finite (mul binary32 x x)) → AtLeast 0 1 (mul binary32 x x)
square_plain x t u = square_least binary32 0 1 x (pow_pos 0) holds_zero u t (le_trans (le_of_eq (zero-mul (den x))) zero-le)

module _ (v : Vector) (n : NearV 1 60 v) where
  sx : Within 1 120 (mul binary32 v.x v.x)
  sx = mul_within binary32 1 120 n.x n.x tt

  sy : Within 1 120 (mul binary32 v.y v.y)
  sy = mul_within binary32 1 120 n.y n.y tt

  sz : Within 1 120 (mul binary32 v.z v.z)
  sz = mul_within binary32 1 120 n.z n.z tt

  sxy : Within 2 120 (add binary32 (mul binary32 v.x v.x) (mul binary32 v.y v.y))
  sxy = add_within binary32 2 120 sx sy tt

  pub squared_60 : Within 3 120 (squared v)
  squared_60 = add_within binary32 3 120 sxy sz tt

  px : AtLeast 0 1 (mul binary32 v.x v.x)
  px = square_plain v.x n.x.known sx.known

  py : AtLeast 0 1 (mul binary32 v.y v.y)
  py = square_plain v.y n.y.known sy.known

  pz : AtLeast 0 1 (mul binary32 v.z v.z)
  pz = square_plain v.z n.z.known sz.known

  pxy : AtLeast 0 1 (add binary32 (mul binary32 v.x v.x) (mul binary32 v.y v.y))
  pxy = add_least binary32 (mul binary32 v.x v.x) (mul binary32 v.y v.y) (pow_pos 0) holds_zero sxy.known px py

  module _ (b d : ℕ) (D : 0 < d) (h : Holds binary32 (b * b) (d * d)) where
    least_x : b * den v.x ≤ num v.x * d → AtLeast (b * b) (d * d) (squared v)
    least_x l =
        add_least binary32 (add binary32 (mul binary32 v.x v.x) (mul binary32 v.y v.y)) (mul binary32 v.z v.z) (mul-pos D D) h squared_60.known
        (add_least binary32 (mul binary32 v.x v.x) (mul binary32 v.y v.y) (mul-pos D D) h sxy.known (square_least binary32 b d v.x D h sx.known n.x.known l) py) pz

    least_y : b * den v.y ≤ num v.y * d → AtLeast (b * b) (d * d) (squared v)
    least_y l =
        add_least binary32 (add binary32 (mul binary32 v.x v.x) (mul binary32 v.y v.y)) (mul binary32 v.z v.z) (mul-pos D D) h squared_60.known
        (add_least_right binary32 (mul binary32 v.x v.x) (mul binary32 v.y v.y) (mul-pos D D) h sxy.known px (square_least binary32 b d v.y D h sy.known n.y.known l)) pz

    least_z : b * den v.z ≤ num v.z * d → AtLeast (b * b) (d * d) (squared v)
    least_z l =
        add_least_right binary32 (add binary32 (mul binary32 v.x v.x) (mul binary32 v.y v.y)) (mul binary32 v.z v.z) (mul-pos D D) h squared_60.known
        pxy (square_least binary32 b d v.z D h sz.known n.z.known l)

-- ---- a value above zero is 2 ^ -149 at least
tiny : (x : Float) → T (fits binary32 x) → T (finite x) → 0 < num x → den x ≤ 2 ^ 149
unfolding fits
tiny nan t u h = absurd u
tiny (inf s) t u h = absurd u
tiny (fin s zero e) t u h = absurd (lt_irrefl 0 (subst (λ (z : ℕ). 0 < z) (zero-mul (up e)) h))
tiny (fin s (suc m) e) t u h =
    let a : Bool = eqb (suc m % 2) 1 && ltb (suc m) (2 ^ 24) in
    let b : Bool = leb (down e) (2 ^ 149) in
    leb→le (down e) (2 ^ 149) (and_r a b (and_l (a && b) (ltb (suc m * up e) (2 ^ 128 * down e)) t))

squared_fits : (v : Vector) → T (fits binary32 (squared v))
squared_fits v = add-fits binary32 (add binary32 (mul binary32 v.x v.x) (mul binary32 v.y v.y)) (mul binary32 v.z v.z)

squared_plain : (v : Vector) → NearV 1 60 v → AtLeast 0 1 (squared v)
squared_plain v n = add_least binary32 (add binary32 (mul binary32 v.x v.x) (mul binary32 v.y v.y)) (mul binary32 v.z v.z) (pow_pos 0) holds_zero (squared_60 v n).known (pxy v n) (pz v n)

-- the length is a number, and not below zero
pub length_plain : (v : Vector) → NearV 1 60 v → AtLeast 0 1 (sqrt (squared v))
length_plain v n = square_root_least (squared v) 0 1 (squared_fits v) (pow_pos 0) holds_zero (squared_plain v n)

module _ (v : Vector) (n : NearV 1 60 v) (p : T (lt zerof (sqrt (squared v)))) where
  not_above : (s : Bool) → T (lt zerof (fin s 0 (pos 0))) → ⊥
  unfolding lt of_bits
  not_above true t = t
  not_above false t = t

  squared_pos : 0 < num (squared v)
  squared_pos =
      elim (eq-zero-or-pos (num (squared v))) [
        | inl z ↦
            let w : Within 0 0 (squared v) = record { known = (squared_60 v n).known; small = le_trans (le_of_eq z) zero-le } in
            let y = zero_is binary32 (squared v) (squared_fits v) w in
            absurd (not_above y.0 (subst (λ (x : Float). T (lt zerof x)) (ap sqrt y.1 ∙ sqrt_zero y.0) p))
        | inr h ↦ h
      ]

  -- the length is 2 ^ -75 at least
  length_tiny : AtLeast 1 (2 ^ 75) (sqrt (squared v))
  length_tiny =
      let q = squared v in
      square_root_least q 1 (2 ^ 75) (squared_fits v) (pow_pos 75) (holds_power binary32 0 75 (lit≤ tt) (lit≤ tt))
      (record {
        plain = (squared_plain v n).plain;
        large = le_trans (le_of_eq (one-mul (den q)))
            (le_trans (tiny q (squared_fits v) (squared_60 v n).known squared_pos)
            (le_trans (lit≤ {m = 2 ^ 149} {n = 2 ^ 75 * 2 ^ 75} tt) (le_trans (le_of_eq (sym (one-mul (2 ^ 75 * 2 ^ 75)))) (mul-le-mul_right (2 ^ 75 * 2 ^ 75) squared_pos))));
      })

  -- and 2 ^ u / 2 ^ 75 at least, at the binade u of a part c
  length_least : (c : Float) → Within 1 60 c → ((b d : ℕ) → 0 < d → Holds binary32 (b * b) (d * d) → b * den c ≤ num c * d → AtLeast (b * b) (d * d) (squared v))
      → AtLeast (2 ^ binade c) (2 ^ 75) (sqrt (squared v))
  length_least c w l = go (binade c) refl
    where
      go : (u : ℕ) → binade c ≡ u → AtLeast (2 ^ u) (2 ^ 75) (sqrt (squared v))
      go zero e = length_tiny
      go (suc u) e =
          let k : suc u ≤ 135 = subst (λ (z : ℕ). z ≤ 135) e (small_binade c w) in
          square_root_least (squared v) (2 ^ suc u) (2 ^ 75) (squared_fits v) (pow_pos 75) (holds_power binary32 (suc u) 75 (omega arith) (omega arith))
          (l (2 ^ suc u) (2 ^ 75) (pow_pos 75) (holds_squares (suc u) (zero-lt-suc u) k)
          (subst (λ (z : ℕ). 2 ^ z * den c ≤ num c * 2 ^ 75) e (above_once c (subst (λ (z : ℕ). 0 < z) (sym e) (zero-lt-suc u)))))

  part_within : (c : Float) → Within 1 60 c → ((b d : ℕ) → 0 < d → Holds binary32 (b * b) (d * d) → b * den c ≤ num c * d → AtLeast (b * b) (d * d) (squared v))
      → Within 2 0 (mul binary32 c (div binary32 one (sqrt (squared v))))
  part_within c w l = over_length c (sqrt (squared v)) w.known (small_binade c w) (length_least c w l)

  pub scaled_near : NearV 2 0 (scale v (div binary32 one (sqrt (squared v))))
  unfolding scale
  scaled_near = record { x = part_within v.x n.x (least_x v n); y = part_within v.y n.y (least_y v n); z = part_within v.z n.z (least_z v n) }

pub unit_near : (v other : Vector) → NearV 1 60 v → NearV 2 0 other → NearV 2 0 (normalize_or v other)
unfolding normalize_or norm dot of_bits
unit_near v other n m = go (is_finite (sqrt (squared v))) (lt zerof (sqrt (squared v))) (λ t. t)
  where
    go : (a b : Bool) → (T b → T (lt zerof (sqrt (squared v)))) → NearV 2 0 (cond (a && b) (scale v (onef /f sqrt (squared v))) other)
    go true true t = scaled_near v n (t tt)
    go true false t = m
    go false true t = m
    go false false t = m

-- ---- the test of a triangle of built places is made on a number: the length of its cross product is finite and not below zero
pub length_known : {a b c : Point} → NearP 6 24 a → NearP 6 24 b → NearP 6 24 c → AtLeast 0 1 (norm (cross (diff b a) (diff c a)))
unfolding norm dot
length_known l m n =
    let w = near_v_up (cross_near 144 48 288 48 (diff_near 12 24 m l tt) (diff_near 12 24 n l tt) tt tt) tt in
    length_plain _ w
