-- How many digits a number of so many bits has. Assumes nothing.
use mathlib.Core.Path.{◌≡◌, sym, subst}
use mathlib.Core.Logic.{⊎_elim}
use mathlib.Core.Bool.{Bool, true, ◌&&◌}
use Prim.Native.Nat.{ℕ, zero, suc, ◌+◌, ◌-◌, ◌*◌, ◌/◌, ◌^◌, ◌≤◌, ◌<◌, zero-le}
use native.Mathlib.Nat.{eq-or-lt_of_le}
use native.Mathlib.Omega.{arith}
use lib.Count.{count_leading_zeros, leading_length}
use lib.Dec.{T, leb, leb→le}
use lib.Ieee.Fits.{and_l, and_r}
use lib.ListN.{length}
use Rattle.decimal.specs.Decimals.{decimal}
use Rattle.decimal.specs.Contract.Decimals.{ten_to}
use Rattle.decimal.proofs.Digits.{size_most, size_least, some_digit}

-- ---- what passes the arms 0, 1, .. of a match is not below them

abbrev pub Passed : ℕ → ℕ → Type 0
Passed zero x = Unit {0}
Passed (suc m) x = Passed m x × (x ≡ m → ⊥)

pub passed : (m x : ℕ) → Passed m x → m ≤ x
passed zero x p = zero-le
passed (suc m) x p = ⊎_elim (λ (e : m ≡ x). absurd (p.1 (sym e))) (λ (h : m < x). h) (eq-or-lt_of_le (passed m x p.0))

-- ---- a test of each number below n

below : (ℕ → Bool) → ℕ → Bool
below p zero = true
below p (suc n) = below p n && p n

all_below : (p : ℕ → Bool) (n : ℕ) → T (below p n) → (k : ℕ) → k < n → T (p k)
unfolding below
all_below p zero t k h = absurd (omega arith)
all_below p (suc n) t k h =
    ⊎_elim (λ (e : k ≡ n). subst (λ (m : ℕ). T (p m)) (sym e) (and_r (below p n) (p n) t)) (λ (l : k < n). all_below p n (and_l (below p n) (p n) t) k l)
    (eq-or-lt_of_le (below_or k n h))
  where
    below_or : (k n : ℕ) → k < suc n → k ≤ n
    below_or k n q = omega arith

-- ---- a number of so many bits has `guess` digits or one more

abbrev guess : ℕ → ℕ
guess bits = bits * 1233 / 4096

-- half of 2 ^ bits has g digits
low : ℕ → ℕ → Bool
low zero p = true
low (suc g) p = leb (2 * 10 ^ g) p

right : ℕ → Bool
right bits = low (guess bits) (2 ^ bits) && leb (2 ^ bits) (10 ^ suc (guess bits))

guessed : (bits : ℕ) → bits < 65 → T (right bits)
unfolding right low below
guessed = all_below right 65 tt

module _ (n bits : ℕ) (few : bits < 65) (under : n < 2 ^ bits) (over : 2 ^ bits ≤ 2 * n + 1) where
  most : length (decimal n) ≤ suc (guess bits)
  unfolding right
  most = size_most (guess bits) n (omega (arith, leb→le (2 ^ bits) (10 ^ suc (guess bits)) (and_r (low (guess bits) (2 ^ bits)) (leb (2 ^ bits) (10 ^ suc (guess bits))) (guessed bits few))))

  least_by : (g : ℕ) → T (low g (2 ^ bits)) → g ≤ length (decimal n)
  unfolding low
  least_by zero t = zero-le
  least_by (suc g) t = size_least g n (half (10 ^ g) (leb→le (2 * 10 ^ g) (2 ^ bits) t))
    where
      half : (p : ℕ) → 2 * p ≤ 2 ^ bits → p ≤ n
      half p h = omega (arith, over)

  least : guess bits ≤ length (decimal n)
  unfolding right
  least = least_by (guess bits) (and_l (low (guess bits) (2 ^ bits)) (leb (2 ^ bits) (10 ^ suc (guess bits))) (guessed bits few))

  fewer : (g : ℕ) → n < ten_to g → length (decimal n) ≤ g
  fewer zero h = absurd (omega arith)
  fewer (suc g) h = size_most g n h

  more : (g : ℕ) → ten_to g ≤ n → suc g ≤ length (decimal n)
  more zero h = some_digit n
  more (suc g) h = size_least (suc g) n h

  size_guess : n < ten_to (guess bits) → guess bits ≡ length (decimal n)
  size_guess h = omega (arith, least, fewer (guess bits) h)

  size_next : ten_to (guess bits) ≤ n → guess bits + 1 ≡ length (decimal n)
  size_next h = omega (arith, most, more (guess bits) h)

module _ (n : ℕ) (h : n < 2 ^ 64) where
  abbrev bits : ℕ
  bits = 64 - count_leading_zeros 64 n

  same_bits : (m : ℕ) → count_leading_zeros 64 n + m ≡ 64 → m ≡ bits
  same_bits m e = omega arith

  pub guess_right : n < ten_to (guess bits) → guess bits ≡ length (decimal n)
  guess_right =
      let l = leading_length 64 n h in
      subst (λ (b : ℕ). n < ten_to (guess b) → guess b ≡ length (decimal n)) (same_bits l.0 l.1) (size_guess n l.0 (omega (arith, l.1)) l.2 l.3)

  pub guess_low : ten_to (guess bits) ≤ n → guess bits + 1 ≡ length (decimal n)
  guess_low =
      let l = leading_length 64 n h in
      subst (λ (b : ℕ). ten_to (guess b) ≤ n → guess b + 1 ≡ length (decimal n)) (same_bits l.0 l.1) (size_next n l.0 (omega (arith, l.1)) l.2 l.3)
