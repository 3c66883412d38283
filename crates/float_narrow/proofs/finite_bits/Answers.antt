-- `float_narrow::finite_bits` meets its contract, by the cases of crates/float/proofs/Narrowing.antt. Assumes nothing.
use Rattle.std.proofs.Common.{ap, arith, le_of_lt, le_refl, le_trans, lit<, lit≤, lt_of_le_of_lt, lt_of_lt_of_le, mod-eq_of_lt, refl, zero-le, ℕ, ◌%◌, ◌*◌, ◌<◌, ◌^◌, ◌∙◌, ◌≡◌}
use native.Mathlib.Nat.{min-eq_left, min-eq_right}
use lib.Count.{count_leading_zeros}
use lib.Ieee.{binary64}
use lib.Ieee.Nearest.{closest}
use Rattle.float.specs.Contract.Rounding.{significand, exponent}
use Rattle.float.proofs.Rounding.{Number, exponent_lt}
use Rattle.float.proofs.Narrowing.{zeros_lt, top_lt, narrows_to_zero, narrows_low, narrows_normal, kept_le}
use Rattle.float_narrow.proofs.finite_bits.Goals as goal

abbrev Given : ℕ → Type 0
Given b = (0 < b % 0x8000_0000_0000_0000) × (b % 0x8000_0000_0000_0000 < 0x7ff0_0000_0000_0000)

-- the number, from its significand and its exponent
number : {b g x : ℕ} → Given b → g ≡ significand binary64 b → x ≡ exponent binary64 b → Number binary64 b g x
number h s e = record { not_zero = h.0; finite = h.1; digits = s; place = e }

zeros : (b g : ℕ) → Given b → g ≡ significand binary64 b → count_leading_zeros 64 g < 64
zeros b g h s = zeros_lt b g (exponent binary64 b) (number h s refl)

-- the shift loses nothing
kept : {b g x : ℕ} → Number binary64 b g x → (d : ℕ) → closest (g * 2 ^ count_leading_zeros 64 g % 2 ^ 64) (2 ^ d) ≡ closest (g * 2 ^ count_leading_zeros 64 g) (2 ^ d)
kept n d = ap (λ (w : ℕ). closest w (2 ^ d)) (mod-eq_of_lt (top_lt _ _ _ n))

pub overflow_cast-top : goal.overflow_cast-top
overflow_cast-top c = record { fits = lt_of_lt_of_le (zeros c.args.b c.significand64-sig.result c.requires c.significand64-sig.ensures) (lit≤ tt) }

pub overflow_shl-top : goal.overflow_shl-top
overflow_shl-top c = zeros c.args.b c.significand64-sig.result c.requires c.significand64-sig.ensures

pub overflow_cast-digits : goal.overflow_cast-digits
overflow_cast-digits c = record { fits = lt_of_lt_of_le (zeros c.args.b c.significand64-sig.result c.requires c.significand64-sig.ensures) (lit≤ tt) }

pub overflow_sub-digits : goal.overflow_sub-digits
overflow_sub-digits c = omega (arith, zeros c.args.b c.significand64-sig.result c.requires c.significand64-sig.ensures)

pub returns-then-digits-lt925 : goal.returns-then-digits-lt925
returns-then-digits-lt925 c = (narrows_to_zero _ _ _ (number c.requires c.significand64-sig.ensures c.exponent64.ensures) c.if-digits-lt925.true, zero-le)

pub overflow_cast-result : goal.overflow_cast-result
overflow_cast-result c = let n = number c.requires c.significand64-sig.ensures c.exponent64.ensures in
    let l = narrows_low _ _ _ n c.if-digits-lt925.false c.if-digits-lt949.true c.round_off.result (c.round_off.ensures ∙ kept n _) in
    record { fits = lt_of_le_of_lt l.0 (lit< tt) }

pub returns-then-digits-lt949 : goal.returns-then-digits-lt949
returns-then-digits-lt949 c = let n = number c.requires c.significand64-sig.ensures c.exponent64.ensures in
    let l = narrows_low _ _ _ n c.if-digits-lt925.false c.if-digits-lt949.true c.round_off.result (c.round_off.ensures ∙ kept n _) in
    (l.1, le_trans l.0 (lit≤ tt))

pub overflow_add-p : goal.overflow_add-p
overflow_add-p c = let n = number c.requires c.significand64-sig.ensures c.exponent64.ensures in
    omega (arith, kept_le _ _ _ n c.round_off-2.result (c.round_off-2.ensures ∙ kept n 40), exponent_lt n)

pub returns-then-p-lt2139095040 : goal.returns-then-p-lt2139095040
returns-then-p-lt2139095040 c = let n = number c.requires c.significand64-sig.ensures c.exponent64.ensures in
    (narrows_normal _ _ _ n c.if-digits-lt949.false c.round_off-2.result _ (c.round_off-2.ensures ∙ kept n 40) (min-eq_left (le_of_lt c.if-p-lt2139095040.true)), le_of_lt c.if-p-lt2139095040.true)

pub returns-else-p-lt2139095040 : goal.returns-else-p-lt2139095040
returns-else-p-lt2139095040 c = let n = number c.requires c.significand64-sig.ensures c.exponent64.ensures in
    (narrows_normal _ _ _ n c.if-digits-lt949.false c.round_off-2.result _ (c.round_off-2.ensures ∙ kept n 40) (min-eq_right c.if-p-lt2139095040.false), le_refl 0x7f80_0000)
