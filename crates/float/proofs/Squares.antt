-- A square is not negative, nor is a sum of numbers that are not; and what is not negative is not below zero. A NaN counts as neither. Assumes nothing.
use mathlib.Core.Path.{◌≡◌, refl, ap, ◌∙◌}
use Prim.Native.Nat.{ℕ, suc, ◌+◌, ◌-◌, ◌*◌, ◌/◌, ◌%◌, ◌^◌, zero-le, compare}
use native.Mathlib.Nat.{le_trans, le_of_eq, zero-mul}
use mathlib.Core.Bool.{Bool, true, false, cond, true≢false}
use lib.Dec.{ltb}
use lib.Ieee.{Float, nan, inf, fin, Format, binary32, prec, emax, low, up, down, size, nearest, odd, units, round, mul, add, lt, of_bits}
use lib.Ieee.Fits.{round_is}
use borrow.Author.Tests.{le-ltb}
use Rattle.float.specs.Signs.{negative}
use Rattle.float.proofs.Signs.{odd_negative}

units_negative : (f : Format) (s : Bool) (q k : ℕ) → negative (units f s q k) ≡ s
unfolding units
units_negative f s q k = go (ltb (q * 2 ^ k) (2 ^ (low f + suc (emax f))))
  where
    go : (b : Bool) → negative (cond b (odd (suc (prec f)) s q k (low f)) (inf s)) ≡ s
    go true = odd_negative (suc (prec f)) s q k (low f)
    go false = refl

pub round_negative : (f : Format) (s : Bool) (a c : ℕ) → negative (round f s a c) ≡ s
round_negative f s a c =
    let n = a * 2 ^ low f in
    let k = size (n / c) - prec f in
    let u = c * 2 ^ k in
    ap negative (round_is f s a c) ∙ units_negative f s (nearest (n / u) (compare (n % u * 2) u)) k

pub square_plus : (f : Format) (x : Float) → negative (mul f x x) ≡ false
unfolding mul
square_plus f nan = refl
square_plus f (inf true) = refl
square_plus f (inf false) = refl
square_plus f (fin true m e) = round_negative f false (m * up e * (m * up e)) (down e * down e)
square_plus f (fin false m e) = round_negative f false (m * up e * (m * up e)) (down e * down e)

pub sum_plus : (f : Format) (x y : Float) → negative x ≡ false → negative y ≡ false → negative (add f x y) ≡ false
unfolding add
sum_plus f nan y p q = refl
sum_plus f (inf true) y p q = absurd (true≢false p)
sum_plus f (inf false) nan p q = refl
sum_plus f (inf false) (inf true) p q = refl
sum_plus f (inf false) (inf false) p q = refl
sum_plus f (inf false) (fin t n d) p q = refl
sum_plus f (fin s m e) nan p q = refl
sum_plus f (fin s m e) (inf t) p q = q
sum_plus f (fin true m e) (fin t n d) p q = absurd (true≢false p)
sum_plus f (fin false m e) (fin true n d) p q = absurd (true≢false q)
sum_plus f (fin false m e) (fin false n d) p q = round_negative f false (m * up e * down d + n * up d * down e) (down e * down d)

pub plus_low : (x : Float) → negative x ≡ false → lt x (of_bits binary32 0) ≡ false
unfolding of_bits lt
plus_low nan p = refl
plus_low (inf true) p = absurd (true≢false p)
plus_low (inf false) p = refl
plus_low (fin true m e) p = absurd (true≢false p)
plus_low (fin false m e) p = le-ltb (m * up e * 1) (0 * 1 * down e) (le_trans (le_of_eq (zero-mul (down e))) zero-le)
