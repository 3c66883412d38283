-- `float_sqrt::sqrt` meets its contract. x is read back from its pattern: a NaN, a zero, a number below zero and an infinity by what the pattern says, and any other number by `root_bits`.
-- Assumes nothing.
use Rattle.std.proofs.Common.{Bool, T, ap, arith, cond, eq-or-lt_of_le, false, inl, inr, le-leb, le_of_lt, le_trans, not, leb, leb→le, lt_irrefl, ltb, ltb→lt, mul-pos, pow_pos, refl, subst, suc, sym, true, zero, zero-mul, ℕ, ◌%◌, ◌&&◌, ◌*◌, ◌/◌, ◌<◌, ◌^◌, ◌∙◌, ◌≡◌, ◌≤◌, ◌⊎◌}
use native.Mathlib.Nat.{mod-le}
use mathlib.Core.Bool.{false≢true}
use lib.Ieee.{Float, nan, inf, fin, Format, binary32, up, fits, is_nan, of_bits, of_fields, to_bits}
use lib.Ieee.Fits.{down_pos, and_l, and_r}
use lib.Ieee.Bits.{of_bits-to_bits}
use lib.Ieee.Exact.{HasValue}
use Rattle.float.specs.Rounding.{square_root}
use Rattle.float.specs.Contract.Rounding.{significand, exponent}
use Rattle.float.proofs.Rounding.{pattern_le, no_nan_bits, read, field_lt, significand_pos}
use Rattle.float_sqrt.proofs.sqrt.Goals as goal

-- what owning an `f32` tells: the format holds it. So it is what its pattern says.
held : (x : Float) → fits binary32 x ≡ true → T (fits binary32 x)
held x e = subst T (sym e) tt

back : (x : Float) → fits binary32 x ≡ true → of_bits binary32 (to_bits binary32 x) ≡ x
back x e = of_bits-to_bits binary32 x (held x e)

-- a NaN is its own root
of_nan : (x : Float) → is_nan x ≡ true → x ≡ square_root binary32 x
unfolding is_nan square_root
of_nan nan h = refl
of_nan (inf s) h = absurd (false≢true h)
of_nan (fin s m e) h = absurd (false≢true h)

number : (x : Float) → is_nan x ≡ false → T (not (is_nan x))
number x n = subst (λ (b : Bool). T (not b)) (sym n) tt

by_fields : (b x t : ℕ) → b % 2 ^ 31 / 2 ^ 23 ≡ x → b % 2 ^ 23 ≡ t → of_bits binary32 b ≡ of_fields binary32 (leb (2 ^ 31) b) x t
unfolding of_bits
by_fields b x t p q = ap (λ (y : ℕ). of_fields binary32 (leb (2 ^ 31) b) y (b % 2 ^ 23)) p ∙ ap (λ (y : ℕ). of_fields binary32 (leb (2 ^ 31) b) x y) q

of_zero : (s : Bool) → of_fields binary32 s 0 0 ≡ square_root binary32 (of_fields binary32 s 0 0)
unfolding of_fields square_root
of_zero s = refl

no_number : of_bits binary32 0x7fc0_0000 ≡ nan
unfolding of_bits
no_number = refl

of_infinity : (s : Bool) → square_root binary32 (of_fields binary32 s 255 0) ≡ cond s nan (inf false)
unfolding of_fields square_root
of_infinity s = refl

plus_infinity : of_fields binary32 false 255 0 ≡ square_root binary32 (of_fields binary32 false 255 0)
unfolding of_fields square_root
plus_infinity = refl

-- a number below zero has no root
of_negative : (f : Format) (x : Float) (a c : ℕ) → HasValue x true a c → 0 < a → square_root f x ≡ nan
unfolding square_root
of_negative f nan a c h p = elim h [ ]
of_negative f (inf _) a c h p = elim h [ ]
of_negative f (fin t zero e) a c h p = absurd (lt_irrefl 0 (subst (λ (n : ℕ). 0 < n) (sym h.1 ∙ ap (λ (n : ℕ). n * c) (zero-mul (up e)) ∙ zero-mul c) (mul-pos p (down_pos e))))
of_negative f (fin true (suc m) e) a c h p = refl
of_negative f (fin false (suc m) e) a c h p = absurd (false≢true h.0)

below_zero : (b : ℕ) → 2 ^ 31 ≤ b → (b % 2 ^ 31 ≡ 0 → ⊥) → (b % 2 ^ 31 ≡ 0x7f80_0000) ⊎ (b % 2 ^ 31 < 0x7f80_0000) → square_root binary32 (of_bits binary32 b) ≡ nan
below_zero b h z (inl e) =
    ap (square_root binary32) (by_fields b 255 0 (omega arith) (omega arith))
    ∙ of_infinity (leb (2 ^ 31) b)
    ∙ ap (λ (s : Bool). cond s nan (inf false)) (le-leb (2 ^ 31) b h)
below_zero b h z (inr l) =
    of_negative binary32 (of_bits binary32 b) (significand binary32 b * 2 ^ exponent binary32 b) (2 ^ 149)
    (subst (λ (s : Bool). HasValue (of_bits binary32 b) s (significand binary32 b * 2 ^ exponent binary32 b) (2 ^ 149)) (le-leb (2 ^ 31) b h) (read binary32 b (field_lt binary32 b l)))
    (mul-pos (significand_pos binary32 b (omega arith)) (pow_pos (exponent binary32 b)))

-- a normal number above zero
range : (b : ℕ) → leb 0x80_0000 b && ltb b 0x7f80_0000 ≡ true → (0 < b) × (b < 0x7f80_0000)
range b e =
    let l = leb 0x80_0000 b in
    let h = ltb b 0x7f80_0000 in
    let t : T (l && h) = subst T (sym e) tt in
    (omega (arith, leb→le 0x80_0000 b (and_l l h t)), ltb→lt b 0x7f80_0000 (and_r l h t))

in_range : (x : Float) → fits binary32 x ≡ true → is_nan x ≡ false → to_bits binary32 x % 2 ^ 31 ≤ 0x7f80_0000
in_range x e n = pattern_le binary32 x (held x e) (number x n)

-- what `root_bits` gives is a number's pattern
pattern : (p : ℕ) → p < 0x7f80_0000 → p % 2 ^ 31 ≤ 0x7f80_0000
pattern p h = le_trans (mod-le p (2 ^ 31)) (le_of_lt h)

pub returns-then-is_nan : goal.returns-then-is_nan
returns-then-is_nan c = of_nan c.args.x (sym c.is_nan.ensures.value ∙ c.if-is_nan.true)

pub root_bits-requires : goal.root_bits-requires
root_bits-requires c = range (to_bits binary32 c.args.x) c.if-b.true

pub float_from_bits-result : goal.float_from_bits-result
float_from_bits-result c = no_nan_bits binary32 c.root_bits.result (pattern c.root_bits.result c.root_bits.ensures.1)

pub returns-then-b : goal.returns-then-b
returns-then-b c = c.root_bits.ensures.0 ∙ ap (square_root binary32) (back c.args.x c.well_formed.0.1)

pub returns-then-b-eq0 : goal.returns-then-b-eq0
returns-then-b-eq0 c = let x = c.args.x in
    let b = to_bits binary32 x in
    let e : of_fields binary32 (leb (2 ^ 31) b) 0 0 ≡ x = sym (by_fields b 0 0 (omega arith) (omega arith)) ∙ back c.args.x c.well_formed.0.1 in
    sym e ∙ of_zero (leb (2 ^ 31) b) ∙ ap (square_root binary32) e

pub returns-then-b-ge2147483648 : goal.returns-then-b-ge2147483648
returns-then-b-ge2147483648 c = let x = c.args.x in
    let b = to_bits binary32 x in
    no_number
    ∙ sym (below_zero b c.if-b-ge2147483648.true c.if-b-eq0.false (eq-or-lt_of_le (in_range c.args.x c.well_formed.0.1 (sym c.is_nan.ensures.value ∙ c.if-is_nan.false))))
    ∙ ap (square_root binary32) (back c.args.x c.well_formed.0.1)

pub returns-then-b-eq2139095040 : goal.returns-then-b-eq2139095040
returns-then-b-eq2139095040 c = let x = c.args.x in
    let b = to_bits binary32 x in
    let s : leb (2 ^ 31) b ≡ false = ap (leb (2 ^ 31)) c.if-b-eq2139095040.true in
    let e : of_fields binary32 false 255 0 ≡ x = ap (λ (t : Bool). of_fields binary32 t 255 0) (sym s) ∙ sym (by_fields b 255 0 (omega arith) (omega arith)) ∙ back c.args.x c.well_formed.0.1 in
    sym e ∙ plus_infinity ∙ ap (square_root binary32) e

pub root_bits-requires-2 : goal.root_bits-requires-2
root_bits-requires-2 c = (omega arith, omega (arith, in_range c.args.x c.well_formed.0.1 (sym c.is_nan.ensures.value ∙ c.if-is_nan.false)))

pub float_from_bits-result-2 : goal.float_from_bits-result-2
float_from_bits-result-2 c = no_nan_bits binary32 c.root_bits-2.result (pattern c.root_bits-2.result c.root_bits-2.ensures.1)

pub returns : goal.returns
returns c = c.root_bits-2.ensures.0 ∙ ap (square_root binary32) (back c.args.x c.well_formed.0.1)
