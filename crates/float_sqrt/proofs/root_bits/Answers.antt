-- `float_sqrt::root_bits` meets its contract, by `sqrt_bits` of the crate float's proofs/Root.antt. Assumes nothing.
use Rattle.std.proofs.Common.{ap, arith, le_trans, lit≤, lt_irrefl, lt_of_lt_of_le, lt_of_not-le, mod-eq_of_lt, pow_mono, refl, subst, suc, sym, ℕ, ◌%◌, ◌*◌, ◌+◌, ◌-◌, ◌/◌, ◌<◌, ◌^◌, ◌∙◌, ◌≡◌, ◌≤◌}
use lib.Count.{count_leading_zeros, leading_top}
use lib.Ieee.{binary32, of_bits}
use Rattle.float.specs.Rounding.{root, square_root}
use Rattle.float.specs.Contract.Rounding.{exponent}
use Rattle.float.proofs.Rounding.{Number, normalised, significand_low, significand_high}
use Rattle.float.proofs.Root.{zeros_lt, sqrt_bits}
use Rattle.float_sqrt.proofs.root_bits.Goals as goal
use Rattle.float_sqrt.proofs.root_bits.Goals.{Then-b-lt8388608}

-- the pattern that `rounded_root` gives, and what is claimed of it
abbrev pattern : ℕ → ℕ → ℕ
pattern top v = (v / 2 + 1) * 0x80_0000 + (root (top * 2 ^ (17 + v % 2)) + 1) / 2

abbrev Rooted : ℕ → ℕ → Type 0
Rooted b p = (of_bits binary32 p ≡ square_root binary32 (of_bits binary32 b)) × (p < 0x7f80_0000)

-- ---- below the normal numbers

subnormal : (b : ℕ) → 0 < b → b < 0x80_0000 → Number binary32 b b 0
subnormal b p h = record {
  not_zero = omega arith;
  finite = omega arith;
  digits = sym (mod-eq_of_lt h) ∙ significand_low binary32 b (omega arith);
  place = omega arith;
}

-- ---- the normal numbers: eight zeros lead their 24 digits

eight : (g : ℕ) → 2 ^ 23 ≤ g → g < 2 ^ 24 → count_leading_zeros 32 g ≡ 8
eight g l h = go (count_leading_zeros 32 g) t.0 t.1 low_end high_end
  where
    t : (j : ℕ) × (count_leading_zeros 32 g + suc j ≡ 32) × (2 ^ j ≤ g) × (g < 2 ^ suc j)
    t = leading_top 32 g (omega arith) (lt_of_lt_of_le h (lit≤ tt))

    low_end : t.0 < 24
    low_end = lt_of_not-le (λ (k : 24 ≤ t.0). lt_irrefl g (lt_of_lt_of_le h (le_trans (pow_mono k) t.2)))

    high_end : 23 < suc t.0
    high_end = lt_of_not-le (λ (k : suc t.0 ≤ 23). lt_irrefl g (lt_of_lt_of_le t.3 (le_trans (pow_mono k) l)))

    go : (z j : ℕ) → z + suc j ≡ 32 → j < 24 → 23 < suc j → z ≡ 8
    go z j e a b = omega arith

normal : (b : ℕ) → 0x80_0000 ≤ b → b < 0x7f80_0000 → Rooted b (pattern ((0x80_0000 + b % 0x80_0000) * 256) (b / 0x80_0000 + 123))
normal b l h =
    subst (λ (v : ℕ). Rooted b (pattern (g * 256) v)) (place b l h)
    (subst (λ (z : ℕ). Rooted b (pattern (g * 2 ^ z) (x + 132 - z))) (eight g (omega arith) (omega arith)) (sqrt_bits b g x number (omega arith) _ refl))
  where
    g : ℕ
    g = 0x80_0000 + b % 0x80_0000

    x : ℕ
    x = exponent binary32 b

    number : Number binary32 b g x
    number = record { not_zero = omega arith; finite = omega arith; digits = significand_high binary32 b (omega arith); place = refl }

    place : (b : ℕ) → 0x80_0000 ≤ b → b < 0x7f80_0000 → exponent binary32 b + 132 - 8 ≡ b / 0x80_0000 + 123
    place b l h = omega arith

-- ----

zeros : (c : Then-b-lt8388608) → count_leading_zeros 32 c.args.b < 32
zeros c = zeros_lt _ _ _ (subnormal c.args.b c.requires.0 c.if-b-lt8388608.true)

pub overflow_shl-b : goal.overflow_shl-b
overflow_shl-b c = zeros c

pub overflow_sub-z : goal.overflow_sub-z
overflow_sub-z c = omega (arith, zeros c)

pub returns-then-b-lt8388608 : goal.returns-then-b-lt8388608
returns-then-b-lt8388608 c = let b = c.args.b in
    let n = subnormal b c.requires.0 c.if-b-lt8388608.true in
    let v = 132 - count_leading_zeros 32 b in
    subst (Rooted b)
    (sym (c.rounded_root.ensures ∙ ap (λ (t : ℕ). pattern t v) (mod-eq_of_lt (normalised 32 (lit≤ tt) n).2)))
    (sqrt_bits b b 0 n (omega arith) _ refl)

pub returns : goal.returns
returns c = let b = c.args.b in
    subst (Rooted b) (sym c.rounded_root-2.ensures) (normal b c.if-b-lt8388608.false c.requires.1)
