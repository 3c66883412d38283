-- The order of bit patterns is that of the values: a magnitude is at most a given one exactly where its pattern, without the sign's bit, is at most the other's.
-- Over both formats. Infinities and NaNs have the largest patterns. Assumes nothing.
use mathlib.Core.Path.{◌≡◌, refl, sym, ap, ◌∙◌, subst}
use mathlib.Core.Logic.{inl, inr}
use Prim.Native.Nat.{ℕ, zero, suc, ◌+◌, ◌-◌, ◌*◌, ◌/◌, ◌%◌, ◌^◌, ◌≤◌, ◌<◌, zero-le}
use native.Mathlib.Nat.{le_refl, le_trans, le_of_eq, le_of_lt, le_antisymm, le_of_suc-le-suc, not-suc-le-zero, not-le_of_lt, lt_of_lt_of_le, lt_of_le_of_lt, lt_irrefl, le-add_right, eq-or-lt_of_le, mul-one, mul_assoc, mul-pos, mul-le-mul_left, mul-le-mul_right, mul-lt-mul_of_pos_right, pow-succ', div-add-mod', div-lt_iff_lt-mul, mod-lt, le-div_iff_mul-le, le_of_mul-le-mul_right, mod-eq_of_lt, zero-lt-suc, mul_comm}
use native.Mathlib.Omega.{arith}
use mathlib.Core.Bool.{Bool, true, false, cond}
use lib.Dec.{T, leb, ltb, eqb}
use lib.Pow.{pow_pos, pow_mono}
use lib.Ieee.{Float, nan, inf, fin, Format, prec, low, hid, ones, top, odd, of_fields, of_bits, is_nan, le}
use lib.Ieee.Bits.{is_true, nan_bits_above, nan_bits_is}
use lib.Ieee.Exact.{HasValue, odd_sign}
use lib.Ieee.Order.{le_of_values}
use lib.Ieee.Positive.{positive_of_value, values_of_le}
use lib.Ieee.Nearest.{div_mono}
use borrow.Author.Tests.{leb-true, leb-false, ltb-true, ltb-false, lt-leb, lt-ltb, eq-eqb, ne_eqb}
use Rattle.float.specs.Signs.{magnitude}
use Rattle.float.proofs.Signs.{by_fields, cleared}

hid_pos : (f : Format) → 0 < hid f
hid_pos f = pow_pos (prec f - 1)

top_pos : (f : Format) → 0 < top f
top_pos f = mul-pos (hid_pos f) (zero-lt-suc (ones f))

-- a pattern with its sign's bit clear, by its fields
plain : (f : Format) (m : ℕ) → m < top f → of_bits f m ≡ of_fields f false (m / hid f) (m % hid f)
plain f m h = by_fields f m ∙ ap (λ (s : Bool). of_fields f s (m % top f / hid f) (m % hid f)) (lt-leb (top f) m h) ∙ ap (λ (x : ℕ). of_fields f false (x / hid f) (m % hid f)) (mod-eq_of_lt h)

-- ---- the magnitude of the fields x and t, in units of the smallest value

abbrev grade : Format → ℕ → ℕ → ℕ
grade f zero t = t
grade f (suc x) t = (hid f + t) * 2 ^ x

fields_value : (f : Format) (x t : ℕ) → x < ones f → HasValue (of_fields f false x t) false (grade f x t) (2 ^ low f)
unfolding of_fields
fields_value f zero t h = subst (λ (a : ℕ). HasValue (odd (prec f) false t 0 (low f)) false a (2 ^ low f)) (mul-one t) (odd_sign (prec f) false t 0 (low f))
fields_value f (suc x) t h =
    subst (λ (v : Float). HasValue v false ((hid f + t) * 2 ^ x) (2 ^ low f))
    (sym (ap (λ (b : Bool). cond b (cond (eqb t 0) (inf false) nan) (odd (prec f) false (hid f + t) x (low f))) (ne_eqb (suc x) (ones f) (λ e. lt_irrefl (suc x) (subst (λ (y : ℕ). suc x < y) (sym e) h)))))
    (odd_sign (prec f) false (hid f + t) x (low f))

upper : (f : Format) (x t : ℕ) → t < hid f → grade f x t < hid f * 2 ^ x
upper f zero t h = subst (λ (y : ℕ). t < y) (sym (mul-one (hid f))) h
upper f (suc x) t h =
    subst (λ (y : ℕ). (hid f + t) * 2 ^ x < y) (mul_assoc (hid f) 2 (2 ^ x) ∙ ap (λ (y : ℕ). hid f * y) (sym (pow-succ' 2 x)))
    (mul-lt-mul_of_pos_right (twice (hid f) t h) (pow_pos x))
  where
    twice : (a t : ℕ) → t < a → a + t < a * 2
    twice a t h = omega arith

rising : (f : Format) (x t y u : ℕ) → t < hid f → x < y → grade f x t < grade f y u
rising f x t zero u h l = absurd (not-suc-le-zero l)
rising f x t (suc y) u h l = lt_of_lt_of_le (upper f x t h) (le_trans (mul-le-mul_left (hid f) (pow_mono (le_of_suc-le-suc l))) (mul-le-mul_right (2 ^ y) (le-add_right (hid f) u)))

level : (f : Format) (x t u : ℕ) → t < u → grade f x t < grade f x u
level f zero t u h = h
level f (suc x) t u h = mul-lt-mul_of_pos_right (more (hid f) t u h) (pow_pos x)
  where
    more : (a t u : ℕ) → t < u → a + t < a + u
    more a t u h = omega arith

grade_lt : (f : Format) (m p : ℕ) → m < p → grade f (m / hid f) (m % hid f) < grade f (p / hid f) (p % hid f)
grade_lt f m p h =
    elim (eq-or-lt_of_le (div_mono m (hid f) p (hid f) (hid_pos f) (hid_pos f) (mul-le-mul_right (hid f) (le_of_lt h)))) [
      | inl e ↦ subst (λ (x : ℕ). grade f (m / hid f) (m % hid f) < grade f x (p % hid f)) e
          (level f (m / hid f) (m % hid f) (p % hid f) (within (m / hid f * hid f) (m % hid f) (p % hid f) m p (div-add-mod' m (hid f)) (ap (λ (x : ℕ). x * hid f + p % hid f) e ∙ div-add-mod' p (hid f)) h))
      | inr l ↦ rising f (m / hid f) (m % hid f) (p / hid f) (p % hid f) (mod-lt m (hid_pos f)) l
    ]
  where
    within : (a t u m p : ℕ) → a + t ≡ m → a + u ≡ p → m < p → t < u
    within a t u m p d e h = omega arith

-- ---- the order

below : (a b : ℕ) → a * b ≤ b * suc a
below a b = le_trans (le_of_eq (mul_comm a b)) (mul-le-mul_left b (le_of_lt (le_refl (suc a))))

value : (f : Format) (m : ℕ) → m < ones f * hid f → HasValue (of_bits f m) false (grade f (m / hid f) (m % hid f)) (2 ^ low f)
value f m h =
    subst (λ (v : Float). HasValue v false (grade f (m / hid f) (m % hid f)) (2 ^ low f))
    (sym (plain f m (lt_of_lt_of_le h (below (ones f) (hid f)))))
    (fields_value f (m / hid f) (m % hid f) ((div-lt_iff_lt-mul (hid_pos f)).1 h))

not_above : (s : Bool) (y : Float) (a c : ℕ) → HasValue y false a c → T (le (cond s (inf false) nan) y) → ⊥
unfolding le
not_above true nan a c h w = h
not_above true (inf s) a c h w = h
not_above true (fin s m e) a c h w = w
not_above false y a c h w = w

-- an infinity or a NaN is at most no finite value
large : (f : Format) (x t : ℕ) (y : Float) (a c : ℕ) → x ≡ ones f → HasValue y false a c → T (le (of_fields f false x t) y) → ⊥
unfolding of_fields
large f zero t y a c e h w = omega arith
large f (suc x) t y a c e h w =
    not_above (eqb t 0) y a c h
    (subst (λ (b : Bool). T (le (cond b (cond (eqb t 0) (inf false) nan) (odd (prec f) false (hid f + t) x (low f))) y)) (eq-eqb (suc x) (ones f) e) w)

at_most : (f : Format) (m p : ℕ) → m ≤ p → p < ones f * hid f → T (le (of_bits f m) (of_bits f p))
at_most f m p l h =
    le_of_values (of_bits f m) (of_bits f p) (grade f (m / hid f) (m % hid f)) (2 ^ low f) (grade f (p / hid f) (p % hid f)) (2 ^ low f) (pow_pos (low f)) (pow_pos (low f))
    (value f m (lt_of_le_of_lt l h)) (value f p h)
    (mul-le-mul_right (2 ^ low f)
    (elim (eq-or-lt_of_le l) [
      | inl e ↦ le_of_eq (ap (λ (q : ℕ). grade f (q / hid f) (q % hid f)) e)
      | inr q ↦ le_of_lt (grade_lt f m p q)
    ]))

above_zero : (f : Format) (m : ℕ) → 0 < m → 0 < grade f (m / hid f) (m % hid f)
above_zero f m h = lt_of_le_of_lt zero-le (grade_lt f 0 m h)

exceeds : (f : Format) (m p : ℕ) → m < top f → 0 < p → p < m → p < ones f * hid f → T (le (of_bits f m) (of_bits f p)) → ⊥
exceeds f m p M P l h t = go (ltb m (ones f * hid f)) refl
  where
    go : (b : Bool) → ltb m (ones f * hid f) ≡ b → ⊥
    go true e =
        not-le_of_lt (grade_lt f p m l)
        (le_of_mul-le-mul_right
        (values_of_le (of_bits f m) (of_bits f p) (grade f (m / hid f) (m % hid f)) (2 ^ low f) (grade f (p / hid f) (p % hid f)) (2 ^ low f)
        (positive_of_value (of_bits f m) (grade f (m / hid f) (m % hid f)) (2 ^ low f) (value f m (ltb-true m (ones f * hid f) e)) (above_zero f m (lt_of_le_of_lt zero-le l)))
        (positive_of_value (of_bits f p) (grade f (p / hid f) (p % hid f)) (2 ^ low f) (value f p h) (above_zero f p P))
        (value f m (ltb-true m (ones f * hid f) e)) (value f p h) t)
        (pow_pos (low f)))
    go false e =
        large f (m / hid f) (m % hid f) (of_bits f p) (grade f (p / hid f) (p % hid f)) (2 ^ low f)
        (le_antisymm (le_of_suc-le-suc ((div-lt_iff_lt-mul (hid_pos f)).1 (subst (λ (z : ℕ). m < z) (mul_comm (hid f) (suc (ones f))) M))) ((le-div_iff_mul-le (hid_pos f)).1 (ltb-false m (ones f * hid f) e)))
        (value f p h)
        (subst (λ (v : Float). T (le v (of_bits f p))) (plain f m M) t)

refuted : (b : Bool) → (T b → ⊥) → b ≡ false
refuted true h = absurd (h tt)
refuted false h = refl

pub ordered : (f : Format) (m p : ℕ) → m < top f → 0 < p → p < ones f * hid f → le (of_bits f m) (of_bits f p) ≡ leb m p
ordered f m p M P h = go (leb m p) refl
  where
    go : (b : Bool) → leb m p ≡ b → le (of_bits f m) (of_bits f p) ≡ b
    go true e = is_true (le (of_bits f m) (of_bits f p)) (at_most f m p (leb-true m p e) h)
    go false e = refuted (le (of_bits f m) (of_bits f p)) (exceeds f m p M P (leb-false m p e) h)

-- a magnitude is at most that of the pattern p, by the bits
pub limited : (f : Format) (b p : ℕ) → 0 < p → p < ones f * hid f → leb (b % top f) p ≡ le (magnitude (of_bits f b)) (of_bits f p)
limited f b p P h = sym (ordered f (b % top f) p (mod-lt b (top_pos f)) P h) ∙ ap (λ (x : Float). le x (of_bits f p)) (cleared f b)

-- ---- patterns of NaNs

is_nan_lem : (x : Float) → T (is_nan x) → nan ≡ x
unfolding is_nan
is_nan_lem nan t = refl
is_nan_lem (inf s) t = absurd t
is_nan_lem (fin s m e) t = absurd t

pub nan_pattern : (f : Format) (b : ℕ) → ones f * hid f < b % top f → nan ≡ of_bits f b
nan_pattern f b h = is_nan_lem (of_bits f b) (subst T (sym (lt-ltb (ones f * hid f) (b % top f) h) ∙ sym (nan_bits_above f b) ∙ nan_bits_is f b) tt)
