-- `float_narrow::narrow` meets its contract. x is read back from its pattern, and the result's pattern has x's sign. Assumes nothing.
use Rattle.std.proofs.Common.{Bool, T, ap, arith, cond, false, leb, leb→le, not, refl, subst, sym, true, ℕ, ◌%◌, ◌*◌, ◌+◌, ◌/◌, ◌<◌, ◌^◌, ◌∙◌, ◌≡◌, ◌≤◌}
use lib.Dec.{nleb→lt}
use lib.Ieee.{Float, nan, inf, fin, is_nan, binary32, binary64, fits, of_bits, to_bits}
use lib.Ieee.Bits.{of_bits-to_bits, to_bits-lt}
use mathlib.Core.Bool.{false≢true}
use Rattle.float.specs.Rounding.{convert}
use Rattle.float.proofs.Rounding.{pattern_le, no_nan_bits}
use Rattle.float_narrow.proofs.narrow.Goals as goal

-- `f32::NAN`
no_number : (x : Float) → is_nan x ≡ true → of_bits binary32 0x7fc0_0000 ≡ convert binary32 x
unfolding of_bits convert is_nan
no_number nan h = refl
no_number (inf s) h = absurd (false≢true h)
no_number (fin s m e) h = absurd (false≢true h)

number : (x : Float) → is_nan x ≡ false → T (not (is_nan x))
number x n = subst (λ (b : Bool). T (not b)) (sym n) tt

-- what owning an `f64` tells: the format holds it
held : (x : Float) → fits binary64 x ≡ true → T (fits binary64 x)
held x e = subst T (sym e) tt

wide : (x : Float) → fits binary64 x ≡ true → to_bits binary64 x < 2 ^ 64
wide x e = to_bits-lt binary64 x (held x e)

-- the sign's bit, moved
sign_is : (b : ℕ) → b < 2 ^ 64 → b / 0x8000_0000_0000_0000 * 0x8000_0000 ≡ cond (leb 0x8000_0000_0000_0000 b) 0x8000_0000 0
sign_is b h = go (leb 0x8000_0000_0000_0000 b) (leb→le 0x8000_0000_0000_0000 b) (nleb→lt 0x8000_0000_0000_0000 b)
  where
    go : (t : Bool) → (T t → 0x8000_0000_0000_0000 ≤ b) → (T (not t) → b < 0x8000_0000_0000_0000) → b / 0x8000_0000_0000_0000 * 0x8000_0000 ≡ cond t 0x8000_0000 0
    go true l g = omega (arith, l tt)
    go false l g = omega (arith, g tt)

signed_fields : (b r : ℕ) → r ≤ 0x7f80_0000 → (b / 0x8000_0000_0000_0000 * 0x8000_0000 + r) % 0x8000_0000 ≤ 0x7f80_0000
signed_fields b r h = omega arith

pub returns-then-is_nan : goal.returns-then-is_nan
returns-then-is_nan c = no_number c.args.x (sym c.is_nan.ensures.value ∙ c.if-is_nan.true)

pub overflow_mul-sign : goal.overflow_mul-sign
overflow_mul-sign c = omega (arith, wide c.args.x c.well_formed.0.1)

pub overflow_cast-sign : goal.overflow_cast-sign
overflow_cast-sign c = record { fits = omega (arith, wide c.args.x c.well_formed.0.1) }

pub narrow_bits-requires : goal.narrow_bits-requires
narrow_bits-requires c = pattern_le binary64 c.args.x (held c.args.x c.well_formed.0.1) (number c.args.x (sym c.is_nan.ensures.value ∙ c.if-is_nan.false))

pub overflow_add-result : goal.overflow_add-result
overflow_add-result c = omega (arith, wide c.args.x c.well_formed.0.1, c.narrow_bits.ensures.1)

pub float_from_bits-result : goal.float_from_bits-result
float_from_bits-result c = let b = to_bits binary64 c.args.x in
    no_nan_bits binary32 (b / 0x8000_0000_0000_0000 * 0x8000_0000 + c.narrow_bits.result) (signed_fields b c.narrow_bits.result c.narrow_bits.ensures.1)

pub returns : goal.returns
returns c = let x = c.args.x in
    ap (λ (s : ℕ). of_bits binary32 (s + c.narrow_bits.result)) (sign_is (to_bits binary64 x) (wide c.args.x c.well_formed.0.1))
    ∙ c.narrow_bits.ensures.0
    ∙ ap (convert binary32) (of_bits-to_bits binary64 x (held c.args.x c.well_formed.0.1))
