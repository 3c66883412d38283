-- `float_narrow::narrow_bits` meets its contract: within the range by `narrows_pattern` of crates/float/proofs/Narrowing.antt, and beyond it by `other_bits`. Assumes nothing.
use Rattle.std.proofs.Common.{T, arith, leb, leb→le, lit<, lt_of_le_of_lt, ltb, ltb→lt, refl, subst, sym, true, ℕ, ◌%◌, ◌&&◌, ◌<◌, ◌^◌, ◌≡◌, ◌≤◌}
use lib.Ieee.Fits.{and_l, and_r}
use Rattle.float.proofs.Narrowing.{narrows_pattern}
use Rattle.float_narrow.proofs.narrow_bits.Goals as goal

range : (m : ℕ) → leb 0x3810_0000_0000_0000 m && ltb m 0x47f0_0000_0000_0000 ≡ true → (0x3810_0000_0000_0000 ≤ m) × (m < 0x47f0_0000_0000_0000)
range m e =
    let l = leb 0x3810_0000_0000_0000 m in
    let h = ltb m 0x47f0_0000_0000_0000 in
    let t : T (l && h) = subst T (sym e) tt in
    (leb→le 0x3810_0000_0000_0000 m (and_l l h t), ltb→lt m 0x47f0_0000_0000_0000 (and_r l h t))

pub overflow_sub-w : goal.overflow_sub-w
overflow_sub-w c = omega (arith, (range (c.args.b % 2 ^ 63) c.if-m.true).0)

pub overflow_cast-result : goal.overflow_cast-result
overflow_cast-result c = let b = c.args.b in
    record { fits = lt_of_le_of_lt (narrows_pattern b (b % 2 ^ 63) refl (range (b % 2 ^ 63) c.if-m.true)).1 (lit< tt) }

pub returns-then-m : goal.returns-then-m
returns-then-m c = let b = c.args.b in
    narrows_pattern b (b % 2 ^ 63) refl (range (b % 2 ^ 63) c.if-m.true)
