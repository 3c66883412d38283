-- The root of a number that is not below zero is below a limit exactly where the number is below `thin_bound` of the limit: for every limit, zeros, infinities and NaNs included.
-- So the root keeps the order. A pattern p of a format of 25 digits stands for `steps p`, which grows with p. Twice the pattern of an f32 is a pattern of that format,
-- and the middle before it has the pattern that is less by one. Assumes nothing.
use mathlib.Core.Path.{◌≡◌, refl, sym, ap, ◌∙◌, subst}
use mathlib.Core.Logic.{◌⊎◌, inl, inr}
use Prim.Native.Nat.{ℕ, zero, suc, ◌+◌, ◌-◌, ◌*◌, ◌/◌, ◌%◌, ◌^◌, ◌≤◌, ◌<◌, zero-le}
use native.Mathlib.Nat.{le_trans, le_of_eq, le_of_lt, lt_of_lt_of_le, lt_of_le_of_lt, lt_of_not-le, not-le_of_lt, zero-lt-suc, zero-mul, zero-add, suc-add, mul-one, mul_comm, mul_assoc, mul_right_comm, mul-mul-mul_comm, add-mul, mul-le-mul, mul-le-mul_right, mul-lt-mul_of_pos_right, mul-pos, eq-or-lt_of_le, eq_of_mul-eq-mul_right, pow-suc, mod-eq_of_lt, eq-zero-or-pos, le-add_right, le-add_left}
use native.Mathlib.Omega.{arith}
use mathlib.Core.Bool.{Bool, true, false, not, cond, true≢false, false≢true}
use lib.IntN.{ℤ}
use lib.Dec.{T, leb, ltb, leb→le, nleb→lt, lit≤, lit<}
use lib.Pow.{pow-add, pow_pos, pow-lt}
use lib.Count.{count_leading_zeros}
use lib.Ieee.{Float, nan, inf, fin, binary32, binary64, up, down, mul, lt, is_nan, fits, of_bits, to_bits}
use lib.Ieee.Fits.{up_pos, down_pos}
use lib.Ieee.Bits.{of_bits-to_bits}
use lib.Ieee.Scale.{finite}
use lib.Ieee.Exact.{HasValue, round_exact}
use lib.Ieee.Order.{transfer}
use lib.Ieee.Positive.{first_pos, positive_of_value, mul_at}
use borrow.Author.Tests.{lt-ltb, le-ltb, lt-leb, leb-false, ltb-true, ltb-false}
use Rattle.float.specs.Rounding.{root, square_root}
use Rattle.float.specs.Contract.Rounding.{significand, exponent, field}
use Rattle.float.specs.Signs.{negative}
use Rattle.float.specs.Contract.Thin.{middle, thin_bound}
use Rattle.float.proofs.Rounding.{pattern_le, Number, value, powers, read, significand_high, significand_low}
use Rattle.float.proofs.Signs.{sign_bit}
use Rattle.float.proofs.Root.{root_is, root_ge, root_lt, zeros_lt, sqrt_bits}

-- ---- numbers of 25 digits, by their patterns

abbrev pub steps : ℕ → ℕ
steps p = (2 ^ 24 + p % 2 ^ 24) * 2 ^ (p / 2 ^ 24)

steps_at : (p t y : ℕ) → p % 2 ^ 24 ≡ t → p / 2 ^ 24 ≡ y → steps p ≡ (2 ^ 24 + t) * 2 ^ y
steps_at p t y a b = ap (λ (n : ℕ). (2 ^ 24 + n) * 2 ^ (p / 2 ^ 24)) a ∙ ap (λ (n : ℕ). (2 ^ 24 + t) * 2 ^ n) b

-- the next pattern's number is larger by a step
next : (p : ℕ) → (2 ^ 24 + (p % 2 ^ 24 + 1)) * 2 ^ (p / 2 ^ 24) ≡ steps (suc p)
next p = go (leb (p % 2 ^ 24 + 2) (2 ^ 24)) (leb→le (p % 2 ^ 24 + 2) (2 ^ 24)) (nleb→lt (p % 2 ^ 24 + 2) (2 ^ 24))
  where
    go : (t : Bool) → (T t → p % 2 ^ 24 + 2 ≤ 2 ^ 24) → (T (not t) → 2 ^ 24 < p % 2 ^ 24 + 2) → (2 ^ 24 + (p % 2 ^ 24 + 1)) * 2 ^ (p / 2 ^ 24) ≡ steps (suc p)
    go true a b = let h = a tt in sym (steps_at (suc p) (p % 2 ^ 24 + 1) (p / 2 ^ 24) (omega arith) (omega arith))
    go false a b =
        let h = b tt in
        let y = p / 2 ^ 24 in
        ap (λ (d : ℕ). d * 2 ^ y) (full (p % 2 ^ 24) (native.Mathlib.Nat.mod-lt p (zero-lt-suc (2 ^ 24 - 1))) h)
        ∙ mul_assoc (2 ^ 24) 2 (2 ^ y)
        ∙ ap (λ (n : ℕ). 2 ^ 24 * n) (mul_comm 2 (2 ^ y) ∙ sym (pow-suc 2 y))
        ∙ sym (steps_at (suc p) 0 (suc y) (omega arith) (omega arith))
      where
        full : (t : ℕ) → t < 2 ^ 24 → 2 ^ 24 < t + 2 → 2 ^ 24 + (t + 1) ≡ 2 ^ 24 * 2
        full t l g = omega arith

one_more : (p : ℕ) → steps p ≤ steps (suc p)
one_more p = le_trans (mul-le-mul_right (2 ^ (p / 2 ^ 24)) (wider (p % 2 ^ 24))) (le_of_eq (next p))
  where
    wider : (t : ℕ) → 2 ^ 24 + t ≤ 2 ^ 24 + (t + 1)
    wider t = omega arith

more : (d p : ℕ) → steps p ≤ steps (d + p)
more zero p = le_of_eq (ap steps (sym (zero-add p)))
more (suc d) p = le_trans (more d p) (le_trans (one_more (d + p)) (le_of_eq (ap steps (sym (suc-add d p)))))

steps_le : (p q : ℕ) → p ≤ q → steps p ≤ steps q
steps_le p q h = subst (λ (n : ℕ). steps p ≤ steps n) (gap p q h) (more (q - p) p)
  where
    gap : (p q : ℕ) → p ≤ q → q - p + p ≡ q
    gap p q h = omega arith

steps_next : (p q : ℕ) → p < q → (2 ^ 24 + (p % 2 ^ 24 + 1)) * 2 ^ (p / 2 ^ 24) ≤ steps q
steps_next p q h = le_trans (le_of_eq (next p)) (steps_le (suc p) q h)

-- ---- the order of two values that are not negative, by the fractions that they equal

pub lt_yes : (x y : Float) (a c b d : ℕ) → 0 < c → 0 < d → HasValue x false a c → HasValue y false b d → a * d < b * c → lt x y ≡ true
unfolding lt
lt_yes nan y a c b d C D p q h = absurd p
lt_yes (inf s) y a c b d C D p q h = absurd p
lt_yes (fin true m e) y a c b d C D p q h = absurd (true≢false p.0)
lt_yes (fin false m e) nan a c b d C D p q h = absurd q
lt_yes (fin false m e) (inf t) a c b d C D p q h = absurd q
lt_yes (fin false m e) (fin true n k) a c b d C D p q h = absurd (true≢false q.0)
lt_yes (fin false m e) (fin false n k) a c b d C D p q h =
    lt-ltb (m * up e * down k) (n * up k * down e)
    (lt_of_not-le (λ (g : n * up k * down e ≤ m * up e * down k). not-le_of_lt h (transfer b a d c (n * up k) (m * up e) (down k) (down e) (down_pos k) (down_pos e) (sym q.1) (sym p.1) g)))

pub lt_no : (x y : Float) (a c b d : ℕ) → 0 < c → 0 < d → HasValue x false a c → HasValue y false b d → b * c ≤ a * d → lt x y ≡ false
unfolding lt
lt_no nan y a c b d C D p q h = refl
lt_no (inf s) y a c b d C D p q h = absurd p
lt_no (fin true m e) y a c b d C D p q h = absurd (true≢false p.0)
lt_no (fin false m e) nan a c b d C D p q h = refl
lt_no (fin false m e) (inf t) a c b d C D p q h = absurd q
lt_no (fin false m e) (fin true n k) a c b d C D p q h = absurd (true≢false q.0)
lt_no (fin false m e) (fin false n k) a c b d C D p q h = le-ltb (m * up e * down k) (n * up k * down e) (transfer (n * up k) (m * up e) (down k) (down e) b a d c D C q.1 p.1 h)

-- the same fraction in lower terms
lower : (x : Float) (s : Bool) (a c k : ℕ) → 0 < k → HasValue x s (a * k) (c * k) → HasValue x s a c
lower nan s a c k K h = h
lower (inf t) s a c k K h = h
lower (fin t m e) s a c k K h = (
  h.0,
  eq_of_mul-eq-mul_right k K (m * up e * c) (a * down e) (mul_assoc (m * up e) c k ∙ h.1 ∙ mul_right_comm a k (down e)),
)

-- ---- the middle, and its square

middle_value : (b : ℕ) → 0 < b → b ≤ 0x7f80_0000 → HasValue (middle b) false (steps (2 * b - 1)) (2 ^ 151)
unfolding middle
middle_value b P h =
    let c = 2 * b - 1 in
    let B = 0x3800_0000_0000_0000 + c * 0x1000_0000 in
    let y = c / 2 ^ 24 in
    let t = c % 2 ^ 24 in
    let fl : field binary64 B ≡ y + 896 = omega arith in
    let small : field binary64 B < 2047 = omega arith in
    let digits : significand binary64 B ≡ (2 ^ 24 + t) * 2 ^ 28 = sym (significand_high binary64 B (omega arith)) ∙ (omega arith) in
    let place : exponent binary64 B ≡ y + 895 = ap (λ (n : ℕ). n - 1) fl ∙ less y in
    lower (middle b) false (steps c) (2 ^ 151) (2 ^ 923) (pow_pos 923)
    (subst (λ (n : ℕ). HasValue (middle b) false n (2 ^ 1074)) (ap (λ (n : ℕ). n * 2 ^ exponent binary64 B) digits ∙ ap (λ (n : ℕ). (2 ^ 24 + t) * 2 ^ 28 * 2 ^ n) place ∙ scale (2 ^ 24 + t) y)
    (subst (λ (s : Bool). HasValue (middle b) s (significand binary64 B * 2 ^ exponent binary64 B) (2 ^ 1074)) (lt-leb (2 ^ 63) B (omega arith)) (read binary64 B small)))
  where
    less : (y : ℕ) → y + 896 - 1 ≡ y + 895
    less y = omega arith

    scale : (d y : ℕ) → d * 2 ^ 28 * 2 ^ (y + 895) ≡ d * 2 ^ y * 2 ^ 923
    scale d y = mul_assoc d (2 ^ 28) (2 ^ (y + 895)) ∙ ap (λ (n : ℕ). d * n) (sym (pow-add 2 28 (y + 895)) ∙ ap (λ (n : ℕ). 2 ^ n) (sums y) ∙ pow-add 2 y 923) ∙ sym (mul_assoc d (2 ^ y) (2 ^ 923))
      where
        sums : (y : ℕ) → 28 + (y + 895) ≡ y + 923
        sums y = omega arith

-- the square of d * 2 ^ y, where d has 25 digits
square_value : (m : Float) (d y : ℕ) → 0 < d → d < 2 ^ 25 → y < 256 → HasValue m false (d * 2 ^ y) (2 ^ 151) → HasValue (mul binary64 m m) false (d * 2 ^ y * (d * 2 ^ y)) (2 ^ 302)
square_value m d y P l k v =
    let a = d * 2 ^ y in
    let p = positive_of_value m a (2 ^ 151) v (mul-pos P (pow_pos y)) in
    subst (λ (z : Float). HasValue z false (a * a) (2 ^ 302)) (sym (mul_at binary64 m m a (2 ^ 151) a (2 ^ 151) p p (pow_pos 151) (pow_pos 151) v v))
    (round_exact binary64 false (a * a) (2 ^ 302) (d * d) (y + y + 772) (pow_pos 302) (lt_of_le_of_lt (mul-le-mul (le_of_lt l) (le_of_lt l)) (lit< tt))
    (lt_of_le_of_lt (mul-le-mul_right (2 ^ (y + y + 772)) (mul-le-mul (le_of_lt l) (le_of_lt l)))
    (lt_of_le_of_lt (le_of_eq (sym (pow-add 2 50 (y + y + 772)))) (pow-lt (below_top y k))))
    (ap (λ (n : ℕ). n * 2 ^ 1074) (mul-mul-mul_comm d (2 ^ y) d (2 ^ y) ∙ ap (λ (n : ℕ). d * d * n) (sym (pow-add 2 y y)))
    ∙ mul_assoc (d * d) (2 ^ (y + y)) (2 ^ 1074)
    ∙ ap (λ (n : ℕ). d * d * n) (sym (pow-add 2 (y + y) 1074) ∙ ap (λ (n : ℕ). 2 ^ n) (sums y) ∙ pow-add 2 (y + y + 772) 302)
    ∙ sym (mul_assoc (d * d) (2 ^ (y + y + 772)) (2 ^ 302))))
  where
    below_top : (y : ℕ) → y < 256 → 50 + (y + y + 772) < 2098
    below_top y h = omega arith

    sums : (y : ℕ) → y + y + 1074 ≡ y + y + 772 + 302
    sums y = omega arith

bound_value : (b : ℕ) → 0 < b → b ≤ 0x7f80_0000 → HasValue (mul binary64 (middle b) (middle b)) false (steps (2 * b - 1) * steps (2 * b - 1)) (2 ^ 302)
bound_value b P h =
    square_value (middle b) (2 ^ 24 + (2 * b - 1) % 2 ^ 24) ((2 * b - 1) / 2 ^ 24) (omega arith) (omega arith) (omega arith) (middle_value b P h)

-- ---- an f32 above zero, by its pattern

higher : (x : Float) (s : Bool) (a c k : ℕ) → HasValue x s a c → HasValue x s (a * k) (c * k)
higher nan s a c k h = h
higher (inf t) s a c k h = h
higher (fin t m e) s a c k h = (h.0, sym (mul_assoc (m * up e) c k) ∙ ap (λ (n : ℕ). n * k) h.1 ∙ mul_right_comm a (down e) k)

plain : (p : ℕ) → p < 0x7f80_0000 → HasValue (of_bits binary32 p) false (significand binary32 p * 2 ^ exponent binary32 p) (2 ^ 149)
plain p h = subst (λ (s : Bool). HasValue (of_bits binary32 p) s (significand binary32 p * 2 ^ exponent binary32 p) (2 ^ 149)) (lt-leb (2 ^ 31) p (omega arith)) (read binary32 p (omega arith))

normal_value : (p : ℕ) → 2 ^ 23 ≤ p → p < 0x7f80_0000 → HasValue (of_bits binary32 p) false (steps (2 * p)) (2 ^ 151)
normal_value p n h =
    let y = p / 2 ^ 23 in
    let t = p % 2 ^ 23 in
    let digits : significand binary32 p ≡ 2 ^ 23 + t = sym (significand_high binary32 p (omega arith)) in
    let place : exponent binary32 p ≡ y - 1 = ap (λ (n : ℕ). n / 2 ^ 23 - 1) (mod-eq_of_lt (lt_of_lt_of_le h (lit≤ tt))) in
    subst (λ (n : ℕ). HasValue (of_bits binary32 p) false n (2 ^ 151))
    (ap (λ (n : ℕ). n * 2 ^ exponent binary32 p * 4) digits ∙ ap (λ (n : ℕ). (2 ^ 23 + t) * 2 ^ n * 4) place ∙ scale t y (omega arith) ∙ sym (steps_at (2 * p) (2 * t) y (omega arith) (omega arith)))
    (higher (of_bits binary32 p) false (significand binary32 p * 2 ^ exponent binary32 p) (2 ^ 149) 4 (plain p h))
  where
    scale : (t y : ℕ) → 0 < y → (2 ^ 23 + t) * 2 ^ (y - 1) * 4 ≡ (2 ^ 24 + 2 * t) * 2 ^ y
    scale t y Y =
        let k = 2 ^ (y - 1) in
        let two : 2 ^ y ≡ k * 2 = ap (λ (n : ℕ). 2 ^ n) (back y Y) ∙ pow-suc 2 (y - 1) in
        mul_assoc (2 ^ 23 + t) k 4 ∙ ap (λ (n : ℕ). (2 ^ 23 + t) * n) (mul_comm k 4 ∙ mul_assoc 2 2 k ∙ ap (λ (n : ℕ). 2 * n) (mul_comm 2 k ∙ sym two)) ∙ sym (mul_assoc (2 ^ 23 + t) 2 (2 ^ y)) ∙ ap (λ (n : ℕ). n * 2 ^ y) (twice t)
      where
        back : (y : ℕ) → 0 < y → y ≡ suc (y - 1)
        back y h = omega arith

        twice : (t : ℕ) → (2 ^ 23 + t) * 2 ≡ 2 ^ 24 + 2 * t
        twice t = omega arith

small_value : (p : ℕ) → p < 2 ^ 23 → HasValue (of_bits binary32 p) false p (2 ^ 149)
small_value p h =
    subst (λ (n : ℕ). HasValue (of_bits binary32 p) false n (2 ^ 149))
    (ap (λ (n : ℕ). n * 2 ^ exponent binary32 p) (sym (significand_low binary32 p (omega arith)) ∙ mod-eq_of_lt h) ∙ ap (λ (n : ℕ). p * 2 ^ n) (none p h) ∙ mul-one p)
    (plain p (omega arith))
  where
    none : (p : ℕ) → p < 2 ^ 23 → p % 2 ^ 31 / 2 ^ 23 - 1 ≡ 0
    none p h = omega arith

infinity : of_bits binary32 0x7f80_0000 ≡ inf false
unfolding of_bits
infinity = refl

lt_inf : (x : Float) (a c : ℕ) → HasValue x false a c → lt x (inf false) ≡ true
unfolding lt
lt_inf nan a c h = absurd h
lt_inf (inf s) a c h = absurd h
lt_inf (fin s m e) a c h = refl

-- The middle lies as far above the f32 before as below its own f32: 2 m = l + p, in units of 2 ^ -151. From 2 ^ -126 on.
pub middle_is : (b : ℕ) → 2 ^ 23 < b → b < 0x7f80_0000
    → (l : ℕ) × (p : ℕ) × (m : ℕ) × HasValue (of_bits binary32 b) false l (2 ^ 151) × HasValue (of_bits binary32 (b - 1)) false p (2 ^ 151) × HasValue (middle b) false m (2 ^ 151) × (2 * m ≡ l + p)
middle_is b n h =
    let c = 2 * b - 1 in
    let y = c / 2 ^ 24 in
    let t = c % 2 ^ 24 in (
      steps (2 * b),
      steps (2 * (b - 1)),
      steps c,
      normal_value b (omega arith) h,
      normal_value (b - 1) (omega arith) (omega arith),
      middle_value b (omega arith) (omega arith),
      twice t (2 ^ y) (odd_part b n) ∙ ap (λ (k : ℕ). (2 ^ 24 + (t + 1)) * 2 ^ y + k) (sym (steps_at (2 * (b - 1)) (t - 1) y (omega arith) (omega arith)))
          ∙ ap (λ (k : ℕ). k + steps (2 * (b - 1))) (next c ∙ ap steps (whole b n)),
    )
  where
    odd_part : (b : ℕ) → 2 ^ 23 < b → 0 < (2 * b - 1) % 2 ^ 24
    odd_part b n = elim (eq-zero-or-pos ((2 * b - 1) % 2 ^ 24)) [ inl z ↦ absurd (parity b ((2 * b - 1) / 2 ^ 24) n (omega arith)) | inr p ↦ p ]
      where
        parity : (b y : ℕ) → 2 ^ 23 < b → 2 * b ≡ 2 * (2 ^ 23 * y) + 1 → ⊥
        parity b y n h = omega arith

    twice : (t k : ℕ) → 0 < t → 2 * ((2 ^ 24 + t) * k) ≡ (2 ^ 24 + (t + 1)) * k + (2 ^ 24 + (t - 1)) * k
    twice t k T' = sym (mul_assoc 2 (2 ^ 24 + t) k) ∙ ap (λ (d : ℕ). d * k) (sums t T') ∙ add-mul (2 ^ 24 + (t + 1)) (2 ^ 24 + (t - 1)) k
      where
        sums : (t : ℕ) → 0 < t → 2 * (2 ^ 24 + t) ≡ 2 ^ 24 + (t + 1) + (2 ^ 24 + (t - 1))
        sums t h = omega arith

    whole : (b : ℕ) → 2 ^ 23 < b → suc (2 * b - 1) ≡ 2 * b
    whole b n = omega arith

-- the order of the patterns is the order of the numbers, of which the first is a normal one
bits_lt : (p b : ℕ) → 2 ^ 23 ≤ p → p < 0x7f80_0000 → b ≤ 0x7f80_0000 → p < b → lt (of_bits binary32 p) (of_bits binary32 b) ≡ true
bits_lt p b n f g h = elim (eq-or-lt_of_le g) [
  | inl e ↦ ap (λ (k : ℕ). lt (of_bits binary32 p) (of_bits binary32 k)) e ∙ ap (lt (of_bits binary32 p)) infinity ∙ lt_inf (of_bits binary32 p) (steps (2 * p)) (2 ^ 151) (normal_value p n f)
  | inr l ↦ lt_yes (of_bits binary32 p) (of_bits binary32 b) (steps (2 * p)) (2 ^ 151) (steps (2 * b)) (2 ^ 151) (pow_pos 151) (pow_pos 151) (normal_value p n f) (normal_value b (le_trans n (le_of_lt h)) l)
      (mul-lt-mul_of_pos_right (lt_of_lt_of_le (mul-lt-mul_of_pos_right (wider (2 * p % 2 ^ 24)) (pow_pos (2 * p / 2 ^ 24))) (steps_next (2 * p) (2 * b) (omega arith))) (pow_pos 151))
]
  where
    wider : (t : ℕ) → 2 ^ 24 + t < 2 ^ 24 + (t + 1)
    wider t = omega arith

bits_ge : (p b : ℕ) → 2 ^ 23 ≤ p → p < 0x7f80_0000 → b ≤ p → lt (of_bits binary32 p) (of_bits binary32 b) ≡ false
bits_ge p b n f h = go (leb (2 ^ 23) b) (leb→le (2 ^ 23) b) (nleb→lt (2 ^ 23) b)
  where
    go : (t : Bool) → (T t → 2 ^ 23 ≤ b) → (T (not t) → b < 2 ^ 23) → lt (of_bits binary32 p) (of_bits binary32 b) ≡ false
    go true a k =
        lt_no (of_bits binary32 p) (of_bits binary32 b) (steps (2 * p)) (2 ^ 151) (steps (2 * b)) (2 ^ 151) (pow_pos 151) (pow_pos 151) (normal_value p n f) (normal_value b (a tt) (lt_of_le_of_lt h f))
        (mul-le-mul_right (2 ^ 151) (steps_le (2 * b) (2 * p) (omega arith)))
    go false a k =
        let l = k tt in
        lt_no (of_bits binary32 p) (of_bits binary32 b) (steps (2 * p)) (2 ^ 151) b (2 ^ 149) (pow_pos 151) (pow_pos 149) (normal_value p n f) (small_value b l)
        (le_trans (le_of_eq (sym (mul_assoc b 4 (2 ^ 149)))) (mul-le-mul_right (2 ^ 149) (le_trans (quarter b l) (steps_le (2 ^ 24) (2 * p) (omega arith)))))
      where
        quarter : (b : ℕ) → b < 2 ^ 23 → b * 4 ≤ 2 ^ 25
        quarter b l = omega arith

-- ---- a number above zero, by its pattern a

-- n has the whole root r, of 25 digits
module _ (n r h c : ℕ) (lo : r * r ≤ n) (hi : n < suc r * suc r) (ge : 2 ^ 24 ≤ r) (lt' : r < 2 ^ 25) where
  abbrev place_of : ℕ
  place_of = (h + 2) * 2 ^ 24 + (r - 2 ^ 24)

  low_part : place_of % 2 ^ 24 ≡ r - 2 ^ 24
  low_part = omega arith

  high_part : place_of / 2 ^ 24 ≡ h + 2
  high_part = omega arith

  below_square : (h + 2) * 2 ^ 24 + (r - 2 ^ 24) < c → n * (2 ^ (h + 2) * 2 ^ (h + 2)) < steps c * steps c
  below_square l =
      let k = 2 ^ (h + 2) in
      let up' : suc r * k ≤ steps c =
      le_trans (le_of_eq (ap (λ (m : ℕ). m * k) (whole r ge) ∙ ap (λ (m : ℕ). (2 ^ 24 + (m + 1)) * k) (sym low_part) ∙ ap (λ (m : ℕ). (2 ^ 24 + (place_of % 2 ^ 24 + 1)) * 2 ^ m) (sym high_part))) (steps_next place_of c l) in
      lt_of_lt_of_le (mul-lt-mul_of_pos_right hi (mul-pos (pow_pos (h + 2)) (pow_pos (h + 2))))
      (le_trans (le_of_eq (mul-mul-mul_comm (suc r) (suc r) k k)) (mul-le-mul up' up'))
    where
      whole : (r : ℕ) → 2 ^ 24 ≤ r → suc r ≡ 2 ^ 24 + (r - 2 ^ 24 + 1)
      whole r g = omega arith

  above_square : c ≤ (h + 2) * 2 ^ 24 + (r - 2 ^ 24) → steps c * steps c ≤ n * (2 ^ (h + 2) * 2 ^ (h + 2))
  above_square l =
      let k = 2 ^ (h + 2) in
      let up' : steps c ≤ r * k =
      le_trans (steps_le c place_of l) (le_of_eq (steps_at place_of (r - 2 ^ 24) (h + 2) low_part high_part ∙ ap (λ (m : ℕ). m * k) (whole r ge))) in
      le_trans (mul-le-mul up' up') (le_trans (le_of_eq (sym (mul-mul-mul_comm r r k k))) (mul-le-mul_right (k * k) lo))
    where
      whole : (r : ℕ) → 2 ^ 24 ≤ r → 2 ^ 24 + (r - 2 ^ 24) ≡ r
      whole r g = omega arith

module _ (a g x : ℕ) (N : Number binary32 a g x) (plus : a < 2 ^ 31) where
  own : HasValue (of_bits binary32 a) false (g * 2 ^ x) (2 ^ 149)
  own = subst (λ (s : Bool). HasValue (of_bits binary32 a) s (g * 2 ^ x) (2 ^ 149)) (lt-leb (2 ^ 31) a plus) (value N)

  -- the root's pattern
  found : (p : ℕ) × (square_root binary32 (of_bits binary32 a) ≡ of_bits binary32 p) × (2 ^ 23 ≤ p) × (p < 0x7f80_0000)
      × ((b : ℕ) → 0 < b → p < b → g * 2 ^ x * 2 ^ 153 < steps (2 * b - 1) * steps (2 * b - 1))
      × ((b : ℕ) → 0 < b → b ≤ p → steps (2 * b - 1) * steps (2 * b - 1) ≤ g * 2 ^ x * 2 ^ 153)
  found =
      let z = count_leading_zeros 32 g in
      let v = x + 132 - z in
      let n = g * 2 ^ z * 2 ^ (17 + v % 2) in
      let h = v / 2 in
      let r = root n in
      let S = sqrt_bits a g x N plus r refl in
      let k = 2 ^ (h + 2) in
      let ge = root_ge a g x N v in
      let under = root_lt a g x N v in
      let is : g * 2 ^ x * 2 ^ 153 ≡ n * (k * k) =
      mul_assoc g (2 ^ x) (2 ^ 153) ∙ ap (λ (y : ℕ). g * y) (sym (pow-add 2 x 153)) ∙ ap (λ (y : ℕ). g * 2 ^ y) (split x z (zeros_lt a g x N)) ∙ sym (powers g z (17 + v % 2) (h + 2 + (h + 2))) ∙ ap (λ (y : ℕ). n * y) (pow-add 2 (h + 2) (h + 2)) in (
        (h + 1) * 0x80_0000 + (r + 1) / 2,
        sym S.0,
        least h r ge,
        S.1,
        λ b B l. lt_of_le_of_lt (le_of_eq is) (below_square n r h (2 * b - 1) (root_is n).0 (root_is n).1 ge under (lower_place h r b ge B l)),
        λ b B l. le_trans (above_square n r h (2 * b - 1) (root_is n).0 (root_is n).1 ge under (upper_place h r b ge B l)) (le_of_eq (sym is)),
      )
    where
      split : (x z : ℕ) → z < 32 → x + 153 ≡ z + (17 + (x + 132 - z) % 2) + ((x + 132 - z) / 2 + 2 + ((x + 132 - z) / 2 + 2))
      split x z l = omega arith

      least : (h r : ℕ) → 2 ^ 24 ≤ r → 2 ^ 23 ≤ (h + 1) * 0x80_0000 + (r + 1) / 2
      least h r g = omega arith

      lower_place : (h r b : ℕ) → 2 ^ 24 ≤ r → 0 < b → (h + 1) * 0x80_0000 + (r + 1) / 2 < b → (h + 2) * 2 ^ 24 + (r - 2 ^ 24) < 2 * b - 1
      lower_place h r b g B l = omega arith

      upper_place : (h r b : ℕ) → 2 ^ 24 ≤ r → 0 < b → b ≤ (h + 1) * 0x80_0000 + (r + 1) / 2 → 2 * b - 1 ≤ (h + 2) * 2 ^ 24 + (r - 2 ^ 24)
      upper_place h r b g B l = omega arith

  thin_above : (b : ℕ) → 0 < b → b ≤ 0x7f80_0000 → lt (square_root binary32 (of_bits binary32 a)) (of_bits binary32 b) ≡ lt (of_bits binary32 a) (mul binary64 (middle b) (middle b))
  thin_above b B top =
      let p = found.0 in
      let X = of_bits binary32 a in
      let M = mul binary64 (middle b) (middle b) in
      let S = steps (2 * b - 1) * steps (2 * b - 1) in
      let A = g * 2 ^ x in
      let start : lt (square_root binary32 X) (of_bits binary32 b) ≡ lt (of_bits binary32 p) (of_bits binary32 b) = ap (λ (y : Float). lt y (of_bits binary32 b)) found.1 in
      elim (split_at p b) [
        | inl l ↦ start ∙ bits_lt p b found.2 found.3 top l
            ∙ sym (lt_yes X M A (2 ^ 149) S (2 ^ 302) (pow_pos 149) (pow_pos 302) own (bound_value b B top) (lt_of_le_of_lt (le_of_eq (sym (mul_assoc A (2 ^ 153) (2 ^ 149)))) (mul-lt-mul_of_pos_right (found.4 b B l) (pow_pos 149))))
        | inr l ↦ start ∙ bits_ge p b found.2 found.3 l
            ∙ sym (lt_no X M A (2 ^ 149) S (2 ^ 302) (pow_pos 149) (pow_pos 302) own (bound_value b B top) (le_trans (mul-le-mul_right (2 ^ 149) (found.5 b B l)) (le_of_eq (mul_assoc A (2 ^ 153) (2 ^ 149)))))
      ]
    where
      split_at : (p b : ℕ) → (p < b) ⊎ (b ≤ p)
      split_at p b = go (leb b p) (leb→le b p) (nleb→lt b p)
        where
          go : (t : Bool) → (T t → b ≤ p) → (T (not t) → p < b) → (p < b) ⊎ (b ≤ p)
          go true u w = inr (u tt)
          go false u w = inl (w tt)

-- ---- which numbers are above zero, and below none

abbrev pub naught : Float
naught = of_bits binary32 0

pub naughts : of_bits binary64 0 ≡ of_bits binary32 0
unfolding of_bits
naughts = refl

not_itself : lt (of_bits binary32 0) (of_bits binary32 0) ≡ false
unfolding of_bits lt
not_itself = refl

-- what is above zero is no NaN, and is not negative
pub above_no_nan : (x : Float) → lt naught x ≡ true → T (not (is_nan x))
unfolding of_bits lt is_nan
above_no_nan nan h = absurd (false≢true h)
above_no_nan (inf s) h = tt
above_no_nan (fin s m e) h = tt

above_plus : (x : Float) → lt naught x ≡ true → negative x ≡ false
unfolding of_bits lt
above_plus nan h = refl
above_plus (inf true) h = absurd (false≢true h)
above_plus (inf false) h = refl
above_plus (fin true m e) h = absurd (false≢true h)
above_plus (fin false m e) h = refl

-- its pattern
pub above_bits : (x : Float) → T (fits binary32 x) → lt naught x ≡ true → (0 < to_bits binary32 x) × (to_bits binary32 x ≤ 0x7f80_0000)
above_bits x t h =
    let b = to_bits binary32 x in
    let n = above_no_nan x h in
    let under : b < 2 ^ 31 = leb-false (2 ^ 31) b (sign_bit binary32 x t n ∙ above_plus x h) in (
      elim (eq-zero-or-pos b) [ inl z ↦ absurd (false≢true (sym not_itself ∙ ap (lt naught) (sym (ap (of_bits binary32) z) ∙ of_bits-to_bits binary32 x t) ∙ h)) | inr q ↦ q ],
      le_trans (le_of_eq (sym (mod-eq_of_lt under))) (pattern_le binary32 x t n),
    )

above_inf : lt naught (inf false) ≡ true
unfolding of_bits lt
above_inf = refl

pub above_fin : (m : ℕ) (e : ℤ) → lt naught (fin false (suc m) e) ≡ true
unfolding of_bits lt
above_fin m e = lt-ltb (0 * 1 * down e) (suc m * up e * 1) (lt_of_le_of_lt (le_of_eq (zero-mul (down e))) (mul-pos (mul-pos (zero-lt-suc m) (up_pos e)) (pow_pos 0)))

not_infinite : (m : ℕ) (e : ℤ) → fin false (suc m) e ≡ inf false → ⊥
not_infinite m e h = true≢false (ap finite h)

number : (m : ℕ) (e : ℤ) → T (fits binary32 (fin false (suc m) e)) → let b = to_bits binary32 (fin false (suc m) e) in Number binary32 b (significand binary32 b) (exponent binary32 b) × (b < 2 ^ 31)
number m e t =
    let x = fin false (suc m) e in
    let b = to_bits binary32 x in
    let B = above_bits x t (above_fin m e) in
    let under : b < 0x7f80_0000 = elim (eq-or-lt_of_le B.1) [ inl i ↦ absurd (not_infinite m e (sym (of_bits-to_bits binary32 x t) ∙ ap (of_bits binary32) i ∙ infinity)) | inr l ↦ l ] in
    let half : b < 2 ^ 31 = lt_of_lt_of_le under (lit≤ tt) in
    let same : b % 2 ^ 31 ≡ b = mod-eq_of_lt half in (
      record { not_zero = subst (λ (n : ℕ). 0 < n) (sym same) B.0; finite = subst (λ (n : ℕ). n < 0x7f80_0000) (sym same) under; digits = refl; place = refl },
      half,
    )

-- what is not below zero is not below what is not above it
low_side : (n u w : ℕ) → n * u ≤ 0 → n * u * w ≡ 0
low_side n u w h = ap (λ (k : ℕ). k * w) (zero_of (n * u) h) ∙ zero-mul w
  where
    zero_of : (k : ℕ) → k ≤ 0 → k ≡ 0
    zero_of k h = omega arith

no_more : (n u d : ℕ) → ltb (0 * 1 * d) (n * u * 1) ≡ false → n * u ≤ 0
no_more n u d h = le_trans (le_of_eq (sym (mul-one (n * u)))) (le_trans (ltb-false (0 * 1 * d) (n * u * 1) h) (le_of_eq (zero-mul d)))

no_less : (m u d : ℕ) → ltb 0 (m * u * 1 + 0 * 1 * d) ≡ false → m * u ≤ 0
no_less m u d h = le_trans (le_of_eq (sym (mul-one (m * u)))) (le_trans (le-add_right (m * u * 1) (0 * 1 * d)) (ltb-false 0 (m * u * 1 + 0 * 1 * d) h))

pub apart : (y l : Float) → lt y naught ≡ false → lt naught l ≡ false → lt y l ≡ false
unfolding of_bits lt
apart nan l p q = refl
apart (inf true) l p q = absurd (true≢false p)
apart (inf false) nan p q = refl
apart (inf false) (inf t) p q = refl
apart (inf false) (fin t n d) p q = refl
apart (fin s m e) nan p q = refl
apart (fin s m e) (inf true) p q = refl
apart (fin s m e) (inf false) p q = absurd (true≢false q)
apart (fin false m e) (fin true n d) p q = refl
apart (fin false m e) (fin false n d) p q =
    le-ltb (m * up e * down d) (n * up d * down e) (le_trans (le_of_eq (low_side n (up d) (down e) (no_more n (up d) (down d) q))) zero-le)
apart (fin true m e) (fin true n d) p q =
    le-ltb (n * up d * down e) (m * up e * down d) (le_trans (le_of_eq (low_side m (up e) (down d) (no_less m (up e) (down e) p))) zero-le)
apart (fin true m e) (fin false n d) p q =
    le-ltb 0 (m * up e * down d + n * up d * down e)
    (le_of_eq (ap (λ (k : ℕ). k + n * up d * down e) (low_side m (up e) (down d) (no_less m (up e) (down e) p)) ∙ ap (λ (k : ℕ). 0 + k) (low_side n (up d) (down e) (no_more n (up d) (down d) q))))

naught_value : HasValue naught false 0 1
unfolding of_bits
naught_value = (refl, refl)

pub below_zero : (m : ℕ) (e : ℤ) → lt (fin true (suc m) e) naught ≡ true
unfolding of_bits lt
below_zero m e = lt-ltb 0 (suc m * up e * 1 + 0 * 1 * down e) (lt_of_lt_of_le (mul-pos (mul-pos (zero-lt-suc m) (up_pos e)) (pow_pos 0)) (le-add_right (suc m * up e * 1) (0 * 1 * down e)))

pub minus_infinity : lt (inf true) naught ≡ true
unfolding of_bits lt
minus_infinity = refl

pub inf_below_none : (l : Float) → lt (inf false) l ≡ false
unfolding lt
inf_below_none nan = refl
inf_below_none (inf t) = refl
inf_below_none (fin t n d) = refl

size_pos : (n : ℕ) (d : ℤ) → ltb (0 * 1 * down d) (n * up d * 1) ≡ true → 0 < n * up d
size_pos n d h = first_pos (n * up d) 1 (lt_of_le_of_lt zero-le (ltb-true (0 * 1 * down d) (n * up d * 1) h))

-- a zero is below what is above zero
pub zero_below : (s : Bool) (e : ℤ) (l : Float) → lt naught l ≡ true → lt (fin s zero e) l ≡ true
unfolding of_bits lt
zero_below s e nan h = absurd (false≢true h)
zero_below s e (inf t) h = h
zero_below s e (fin true n d) h = absurd (false≢true h)
zero_below false e (fin false n d) h = lt-ltb (0 * up e * down d) (n * up d * down e) (lt_of_le_of_lt (le_of_eq (ap (λ (k : ℕ). k * down d) (zero-mul (up e)) ∙ zero-mul (down d))) (mul-pos (size_pos n d h) (down_pos e)))
zero_below true e (fin false n d) h = lt-ltb 0 (0 * up e * down d + n * up d * down e) (lt_of_lt_of_le (mul-pos (size_pos n d h) (down_pos e)) (le-add_left (n * up d * down e) (0 * up e * down d)))

-- ---- the law

pub bound_above : (l : Float) → lt naught l ≡ true → thin_bound l ≡ mul binary64 (middle (to_bits binary32 l)) (middle (to_bits binary32 l))
unfolding thin_bound
bound_above l h = ap (λ (t : Bool). cond t (mul binary64 (middle (to_bits binary32 l)) (middle (to_bits binary32 l))) (of_bits binary64 0)) h

pub bound_low : (l : Float) → lt naught l ≡ false → thin_bound l ≡ naught
unfolding thin_bound
bound_low l h = ap (λ (t : Bool). cond t (mul binary64 (middle (to_bits binary32 l)) (middle (to_bits binary32 l))) (of_bits binary64 0)) h ∙ naughts

-- as a fraction
pub bound_is : (l : Float) → T (fits binary32 l) → lt naught l ≡ true → let c = 2 * to_bits binary32 l - 1 in HasValue (thin_bound l) false (steps c * steps c) (2 ^ 302)
bound_is l t h =
    let c = 2 * to_bits binary32 l - 1 in
    let B = above_bits l t h in
    subst (λ (z : Float). HasValue z false (steps c * steps c) (2 ^ 302)) (sym (bound_above l h)) (bound_value (to_bits binary32 l) B.0 B.1)

steps_pos : (p : ℕ) → 0 < steps p
steps_pos p = mul-pos (wide (p % 2 ^ 24)) (pow_pos (p / 2 ^ 24))
  where
    wide : (t : ℕ) → 0 < 2 ^ 24 + t
    wide t = omega arith

pub above_bound : (l : Float) → T (fits binary32 l) → lt naught l ≡ true → lt naught (thin_bound l) ≡ true
above_bound l t h =
    let c = 2 * to_bits binary32 l - 1 in
    lt_yes naught (thin_bound l) 0 1 (steps c * steps c) (2 ^ 302) (pow_pos 0) (pow_pos 302) naught_value (bound_is l t h)
    (lt_of_le_of_lt (le_of_eq (zero-mul (2 ^ 302))) (mul-pos (mul-pos (steps_pos c) (steps_pos c)) (pow_pos 0)))

-- where the limit is above zero
over : (x l : Float) → T (fits binary32 x) → T (fits binary32 l) → lt x naught ≡ false → lt naught l ≡ true → lt (square_root binary32 x) l ≡ lt x (thin_bound l)
unfolding square_root
over nan l t u p q = nan_below_none l ∙ sym (nan_below_none (thin_bound l))
  where
    nan_below_none : (l : Float) → lt nan l ≡ false
    nan_below_none l = unfold lt in refl
over (inf true) l t u p q = absurd (true≢false (sym minus_infinity ∙ p))
over (inf false) l t u p q = inf_below_none l ∙ sym (inf_below_none (thin_bound l))
over (fin s zero e) l t u p q = zero_below s e l q ∙ sym (zero_below s e (thin_bound l) (above_bound l u q))
over (fin true (suc m) e) l t u p q = absurd (true≢false (sym (below_zero m e) ∙ p))
over (fin false (suc m) e) l t u p q =
    let x = fin false (suc m) e in
    let a = to_bits binary32 x in
    let b = to_bits binary32 l in
    let N = number m e t in
    let B = above_bits l u q in
    let back = of_bits-to_bits binary32 x t in
    ap (λ (z : Float). lt (square_root binary32 z) l) (sym back)
    ∙ ap (lt (square_root binary32 (of_bits binary32 a))) (sym (of_bits-to_bits binary32 l u))
    ∙ thin_above a (significand binary32 a) (exponent binary32 a) N.0 N.1 b B.0 B.1
    ∙ ap (λ (z : Float). lt z (mul binary64 (middle b) (middle b))) back
    ∙ ap (lt x) (sym (bound_above l q))

-- a root is not below zero
pub root_of_lem : (m : ℕ) (e : ℤ) → T (fits binary32 (fin false (suc m) e)) → (p : ℕ) × (square_root binary32 (fin false (suc m) e) ≡ of_bits binary32 p) × HasValue (of_bits binary32 p) false (steps (2 * p)) (2 ^ 151)
root_of_lem m e t =
    let x = fin false (suc m) e in
    let a = to_bits binary32 x in
    let N = number m e t in
    let F = found a (significand binary32 a) (exponent binary32 a) N.0 N.1 in
    (F.0, ap (square_root binary32) (sym (of_bits-to_bits binary32 x t)) ∙ F.1, normal_value F.0 F.2 F.3)

pub root_low : (x : Float) → T (fits binary32 x) → lt x naught ≡ false → lt (square_root binary32 x) naught ≡ false
root_low nan t p = unfold square_root in p
root_low (inf true) t p = absurd (true≢false (sym minus_infinity ∙ p))
root_low (inf false) t p = unfold square_root in p
root_low (fin s zero e) t p = unfold square_root in p
root_low (fin true (suc m) e) t p = absurd (true≢false (sym (below_zero m e) ∙ p))
root_low (fin false (suc m) e) t p =
    let R = root_of_lem m e t in
    ap (λ (z : Float). lt z naught) R.1
    ∙ lt_no (of_bits binary32 R.0) naught (steps (2 * R.0)) (2 ^ 151) 0 1 (pow_pos 151) (pow_pos 0) R.2 naught_value (le_trans (le_of_eq (zero-mul (2 ^ 151))) zero-le)

-- The root of a number that is not below zero, or a NaN's, is below a limit where the number is below the limit's `thin_bound`.
pub thin : (x limit : Float) → T (fits binary32 x) → T (fits binary32 limit) → lt x naught ≡ false → lt (square_root binary32 x) limit ≡ lt x (thin_bound limit)
thin x l t u p = go (lt naught l) refl
  where
    go : (b : Bool) → lt naught l ≡ b → lt (square_root binary32 x) l ≡ lt x (thin_bound l)
    go true q = over x l t u p q
    go false q = apart (square_root binary32 x) l (root_low x t p) q ∙ sym (ap (lt x) (bound_low l q) ∙ p)
