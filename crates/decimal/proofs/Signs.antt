-- The sign of an i64, and how many bytes it takes. Assumes nothing.
use mathlib.Core.Path.{◌≡◌, sym, ap, ◌∙◌, subst}
use mathlib.Core.Bool.{true, false}
use Prim.Native.Nat.{suc, ◌+◌, ◌≤◌}
use native.Mathlib.Omega.{arith}
use borrow.Author.Tests.{leb-false}
use lib.Dec.{T}
use lib.IntN.{ℤ, pos, negsuc, nat_abs}
use lib.ListN.{length}
use lib.Signed.{le_z}
use Rattle.decimal.specs.Decimals.{decimal}
use Rattle.decimal.specs.Contract.Decimals.{integer}
use Rattle.decimal.proofs.Digits.{size_u64}
use mir.Syntax.{w64}
use mir.Val.{SFits, of_z, to_z}
use mir.Facts.{to_z-of_z}

-- a signed local holds bits: what is read back from those of z
abbrev pub kept : ℤ → ℤ
kept z = to_z w64 (of_z w64 z)

-- ---- sizes

-- an i64 takes at most 21 bytes
pub size_i64 : (x : ℤ) → SFits w64 x → length (integer x) ≤ 21
unfolding integer
size_i64 (pos n) f = omega (arith, size_u64 n (omega (arith, f.sfits)))
size_i64 (negsuc n) f = omega (arith, size_u64 (suc n) (omega (arith, f.sfits)))

pub kept_is : (x : ℤ) → SFits w64 x → kept x ≡ x
kept_is x f = to_z-of_z f

pub no_sign : (x : ℤ) → SFits w64 x → le_z (pos 0) (kept x) ≡ true → 0 + length (decimal (nat_abs x)) ≡ length (integer x)
unfolding integer
no_sign (pos n) f e = omega arith
no_sign (negsuc n) f e = absurd (subst T (sym (ap (le_z (pos 0)) (sym (to_z-of_z f)) ∙ e)) tt)

pub minus_sign : (x : ℤ) → SFits w64 x → le_z (pos 0) (kept x) ≡ false → 1 + length (decimal (nat_abs x)) ≡ length (integer x)
unfolding integer
minus_sign (pos n) f e = absurd (omega (arith, leb-false 0 n (ap (le_z (pos 0)) (sym (to_z-of_z f)) ∙ e)))
minus_sign (negsuc n) f e = omega arith
