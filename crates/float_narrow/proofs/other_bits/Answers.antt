-- `float_narrow::other_bits` meets its contract: a zero and an infinity by their patterns, and any other number by `finite_bits`. Assumes nothing.
use Rattle.std.proofs.Common.{Bool, ap, arith, cond, false, le_refl, leb, refl, sym, true, zero-le, ℕ, ◌%◌, ◌+◌, ◌/◌, ◌^◌, ◌∙◌, ◌≡◌}
use lib.Ieee.{binary32, binary64, of_bits, of_fields, round}
use Rattle.float.specs.Rounding.{convert}
use Rattle.float_narrow.proofs.other_bits.Goals as goal

-- a pattern by its fields
by_fields : (b : ℕ) → of_bits binary64 b ≡ of_fields binary64 (leb (2 ^ 63) b) (b % 2 ^ 63 / 2 ^ 52) (b % 2 ^ 52)
unfolding of_bits
by_fields b = refl

at : (b x t : ℕ) → b % 2 ^ 63 / 2 ^ 52 ≡ x → b % 2 ^ 52 ≡ t → of_bits binary64 b ≡ of_fields binary64 (leb (2 ^ 63) b) x t
at b x t p q = by_fields b ∙ ap (λ (y : ℕ). of_fields binary64 (leb (2 ^ 63) b) y (b % 2 ^ 52)) p ∙ ap (λ (y : ℕ). of_fields binary64 (leb (2 ^ 63) b) x y) q

zero_case : (s : Bool) → of_bits binary32 (cond s 0x8000_0000 0 + 0) ≡ convert binary32 (of_fields binary64 s 0 0)
unfolding of_bits of_fields convert round
zero_case true = refl
zero_case false = refl

infinity_case : (s : Bool) → of_bits binary32 (cond s 0x8000_0000 0 + 0x7f80_0000) ≡ convert binary32 (of_fields binary64 s 2047 0)
unfolding of_bits of_fields convert
infinity_case true = refl
infinity_case false = refl

pub returns-then-m-eq0 : goal.returns-then-m-eq0
returns-then-m-eq0 c = let b = c.args.b in
    (zero_case (leb (2 ^ 63) b) ∙ ap (convert binary32) (sym (at b 0 0 (omega arith) (omega arith))), zero-le)

pub returns-then-m-eq9218868437227405312 : goal.returns-then-m-eq9218868437227405312
returns-then-m-eq9218868437227405312 c = let b = c.args.b in
    (infinity_case (leb (2 ^ 63) b) ∙ ap (convert binary32) (sym (at b 2047 0 (omega arith) (omega arith))), le_refl 0x7f80_0000)
