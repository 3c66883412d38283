-- Values of the definitions that antt computes. Assumes nothing.
use mathlib.Core.Path.{◌≡◌, refl}
use mathlib.Core.Bool.{true, false}
use Prim.Native.Nat.{◌+◌, ◌^◌}
use lib.IntN.{pos, negsuc}
use lib.Ieee.{nan, inf, fin, binary32, binary64, of_bits}
use Rattle.float.specs.Rounding.{square_root, convert}
use Rattle.float.specs.Signs.{signum}
use Rattle.float.specs.Contract.Thin.{thin_bound}

-- 1 + 3 * 2 ^ -24 narrows to 1 + 2 ^ -22
narrows : convert binary32 (fin false (2 ^ 24 + 3) (negsuc 23)) ≡ fin false (2 ^ 22 + 1) (negsuc 21)
unfolding convert
narrows = refl

-- the largest finite binary64 narrows to an infinity, and the smallest to a zero
overflows : convert binary32 (of_bits binary64 0xffef_ffff_ffff_ffff) ≡ inf true
unfolding convert of_bits
overflows = refl

underflows : convert binary32 (of_bits binary64 0x8000_0000_0000_0001) ≡ fin true 0 (pos 0)
unfolding convert of_bits
underflows = refl

-- the roots of 2, of the smallest and of the largest positive binary32
root_of_two : square_root binary32 (fin false 1 (pos 1)) ≡ of_bits binary32 0x3fb5_04f3
unfolding square_root of_bits
root_of_two = refl

root_of_least : square_root binary32 (of_bits binary32 1) ≡ of_bits binary32 0x1a35_04f3
unfolding square_root of_bits
root_of_least = refl

root_of_largest : square_root binary32 (of_bits binary32 0x7f7f_ffff) ≡ of_bits binary32 0x5f7f_ffff
unfolding square_root of_bits
root_of_largest = refl

root_of_negative : square_root binary32 (fin true 1 (pos 0)) ≡ nan
unfolding square_root
root_of_negative = refl

-- the bounds of 1e-6, of 1 and of 0
bound_of_area : thin_bound (of_bits binary32 0x3586_37bd) ≡ of_bits binary64 0x3d71_9799_5e22_7310
unfolding thin_bound of_bits
bound_of_area = refl

bound_of_one : thin_bound (of_bits binary32 0x3f80_0000) ≡ of_bits binary64 0x3fef_ffff_e000_0008
unfolding thin_bound of_bits
bound_of_one = refl

bound_of_zero : thin_bound (of_bits binary32 0x8000_0000) ≡ fin false 0 (pos 0)
unfolding thin_bound of_bits
bound_of_zero = refl

-- the signs of the two zeros
sign_of_zero : signum (fin false 0 (pos 0)) ≡ fin false 1 (pos 0)
unfolding signum
sign_of_zero = refl

sign_of_minus_zero : signum (fin true 0 (pos 0)) ≡ fin true 1 (pos 0)
unfolding signum
sign_of_minus_zero = refl
