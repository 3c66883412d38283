-- The sign's bit of a pattern: it is the value's sign, and clearing it gives the absolute value. Assumes nothing.
use mathlib.Core.Path.{◌≡◌, refl, sym, ap, ◌∙◌, subst}
use Prim.Native.Nat.{ℕ, zero, suc, ◌+◌, ◌-◌, ◌/◌, ◌%◌, ◌≤◌, ◌<◌}
use native.Mathlib.Nat.{mod-lt, mod-mod, mod-mod_of_dvd, dvd-mul_right, mul-pos, zero-lt-suc}
use mathlib.Core.Bool.{Bool, true, false, not, cond, false≢true}
use lib.Dec.{T, leb, eqb}
use lib.Pow.{pow_pos}
use lib.Ieee.{Float, nan, inf, fin, Format, prec, hid, ones, top, low, odd, of_fields, of_bits, to_bits, fits, is_nan, ne, eq}
use lib.Ieee.Compare.{differs_from_itself}
use lib.Ieee.Bits.{of_bits-to_bits}
use borrow.Author.Tests.{lt-leb, le-leb}
use Rattle.float.specs.Signs.{negative, magnitude}

pub by_fields : (f : Format) (b : ℕ) → of_bits f b ≡ of_fields f (leb (top f) b) (b % top f / hid f) (b % hid f)
unfolding of_bits
by_fields f b = refl

-- ---- the sign

pub odd_negative : (d : ℕ) (s : Bool) (q k l : ℕ) → negative (odd d s q k l) ≡ s
unfolding odd
odd_negative d s zero k l = refl
odd_negative d s (suc q) k l = refl

picked_negative : (a b s : Bool) (v : Float) → negative v ≡ s → T (not (is_nan (cond a (cond b (inf s) nan) v))) → negative (cond a (cond b (inf s) nan) v) ≡ s
unfolding is_nan
picked_negative true true s v h n = refl
picked_negative true false s v h n = absurd n
picked_negative false b s v h n = h

fields_negative : (f : Format) (s : Bool) (x t : ℕ) → T (not (is_nan (of_fields f s x t))) → negative (of_fields f s x t) ≡ s
unfolding of_fields
fields_negative f s zero t n = odd_negative (prec f) s t 0 (low f)
fields_negative f s (suc x) t n = picked_negative (eqb (suc x) (ones f)) (eqb t 0) s (odd (prec f) s (hid f + t) x (low f)) (odd_negative (prec f) s (hid f + t) x (low f)) n

pub sign_bit : (f : Format) (x : Float) → T (fits f x) → T (not (is_nan x)) → leb (top f) (to_bits f x) ≡ negative x
sign_bit f x h n =
    let b = to_bits f x in
    let e : of_fields f (leb (top f) b) (b % top f / hid f) (b % hid f) ≡ x = sym (by_fields f b) ∙ of_bits-to_bits f x h in
    sym (fields_negative f (leb (top f) b) (b % top f / hid f) (b % hid f) (subst (λ (v : Float). T (not (is_nan v))) (sym e) n)) ∙ ap negative e

-- ---- the absolute value

odd_magnitude : (d : ℕ) (s : Bool) (q k l : ℕ) → odd d false q k l ≡ magnitude (odd d s q k l)
unfolding odd magnitude
odd_magnitude d s zero k l = refl
odd_magnitude d s (suc q) k l = refl

picked_magnitude : (a b s : Bool) (v w : Float) → w ≡ magnitude v → cond a (cond b (inf false) nan) w ≡ magnitude (cond a (cond b (inf s) nan) v)
unfolding magnitude
picked_magnitude true true s v w h = refl
picked_magnitude true false s v w h = refl
picked_magnitude false b s v w h = h

fields_magnitude : (f : Format) (s : Bool) (x t : ℕ) → of_fields f false x t ≡ magnitude (of_fields f s x t)
unfolding of_fields
fields_magnitude f s zero t = odd_magnitude (prec f) s t 0 (low f)
fields_magnitude f s (suc x) t = picked_magnitude (eqb (suc x) (ones f)) (eqb t 0) s (odd (prec f) s (hid f + t) x (low f)) (odd (prec f) false (hid f + t) x (low f)) (odd_magnitude (prec f) s (hid f + t) x (low f))

pub cleared : (f : Format) (b : ℕ) → of_bits f (b % top f) ≡ magnitude (of_bits f b)
cleared f b =
    by_fields f (b % top f)
    ∙ ap (λ (s : Bool). of_fields f s (b % top f % top f / hid f) (b % top f % hid f)) (lt-leb (top f) (b % top f) (mod-lt b (mul-pos (pow_pos (prec f - 1)) (zero-lt-suc (ones f)))))
    ∙ ap (λ (x : ℕ). of_fields f false (x / hid f) (b % top f % hid f)) (mod-mod b (top f))
    ∙ ap (λ (t : ℕ). of_fields f false (b % top f / hid f) t) (mod-mod_of_dvd (hid f) b (dvd-mul_right (hid f) (suc (ones f))))
    ∙ fields_magnitude f (leb (top f) b) (b % top f / hid f) (b % hid f)
    ∙ ap magnitude (sym (by_fields f b))

pub clear_sign : (f : Format) (x : Float) → T (fits f x) → of_bits f (to_bits f x % top f) ≡ magnitude x
clear_sign f x h = cleared f (to_bits f x) ∙ ap magnitude (of_bits-to_bits f x h)

-- ---- a NaN, and what a test says of the sign

pub nan_itself : (x : Float) → ne x x ≡ true → x ≡ nan
nan_itself x h = differs_from_itself x (subst T (sym h) tt)

pub nan_magnitude : (x : Float) → ne x x ≡ true → x ≡ magnitude x
unfolding magnitude
nan_magnitude x h = let e = nan_itself x h in e ∙ ap magnitude (sym e)

pub plus : (f : Format) (x : Float) → T (fits f x) → T (not (is_nan x)) → to_bits f x < top f → negative x ≡ false
plus f x h n l = sym (sign_bit f x h n) ∙ lt-leb (top f) (to_bits f x) l

pub minus : (f : Format) (x : Float) → T (fits f x) → T (not (is_nan x)) → top f ≤ to_bits f x → negative x ≡ true
minus f x h n l = sym (sign_bit f x h n) ∙ le-leb (top f) (to_bits f x) l

-- one that equals something is no NaN
pub equal_no_nan : (x y : Float) → eq x y ≡ true → T (not (is_nan x)) × T (not (is_nan y))
unfolding eq is_nan
equal_no_nan nan y h = absurd (false≢true h)
equal_no_nan (inf s) nan h = absurd (false≢true h)
equal_no_nan (inf s) (inf t) h = (tt, tt)
equal_no_nan (inf s) (fin t n d) h = (tt, tt)
equal_no_nan (fin s m e) nan h = absurd (false≢true h)
equal_no_nan (fin s m e) (inf t) h = (tt, tt)
equal_no_nan (fin s m e) (fin t n d) h = (tt, tt)
