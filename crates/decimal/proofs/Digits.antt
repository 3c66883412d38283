-- Laws of decimal numbers: the last digit, the size, and stores from the end. Assumes nothing.
use mathlib.Core.Path.{◌≡◌, refl, sym, ap, ◌∙◌, subst}
use mathlib.Core.Bool.{Bool, true, false}
use mathlib.Core.List.{List, [], ◌∷◌, ◌++◌, append_assoc}
use Prim.Native.Nat.{ℕ, zero, suc, ◌+◌, ◌*◌, ◌/◌, ◌%◌, ◌^◌, ◌≤◌, ◌<◌}
use native.Mathlib.Nat.{div-lt_iff_lt-mul, le_refl, lt_of_lt_of_le, le-div_iff_mul-le, pow-suc, one-le-pow}
use native.Mathlib.Omega.{arith}
use borrow.Author.Tests.{lt-ltb, le-ltb, ltb-true, ltb-false}
use lib.Dec.{ltb, lit<, lit≤}
use lib.ListN.{length, get_or, length-append, get_or-append}
use Rattle.decimal.specs.Decimals.{digits, decimal}

one_digit : (steps n : ℕ) → n < 10 → digits steps n ≡ (48 + n) ∷ []
unfolding digits
one_digit zero n h = refl
one_digit (suc steps) n h = rw (lt-ltb n 10 h)

more_digits : (steps n : ℕ) → 10 ≤ n → digits (suc steps) n ≡ digits steps (n / 10) ++ ((48 + n % 10) ∷ [])
unfolding digits
more_digits steps n h = rw (le-ltb n 10 h)

-- what holds whether or not n has one digit
module _ (P : ℕ → Type 0) (n : ℕ) (one : n < 10 → P n) (more : 10 ≤ n → P n) where
  by : (b : Bool) → ltb n 10 ≡ b → P n
  by true e = one (ltb-true n 10 e)
  by false e = more (ltb-false n 10 e)

  either_size : P n
  either_size = by (ltb n 10) refl

-- n steps are enough, and more change nothing
enough : (s t n : ℕ) → n ≤ s → n ≤ t → digits s n ≡ digits t n
enough zero t n h k = one_digit zero n (omega arith) ∙ sym (one_digit t n (omega arith))
enough (suc s) zero n h k = one_digit (suc s) n (omega arith) ∙ sym (one_digit zero n (omega arith))
enough (suc s) (suc t) n h k =
    either_size (λ (m : ℕ). digits (suc s) m ≡ digits (suc t) m) n
    (λ o. one_digit (suc s) n o ∙ sym (one_digit (suc t) n o))
    (λ m. more_digits s n m ∙ ap (λ (l : List ℕ). l ++ ((48 + n % 10) ∷ [])) (enough s t (n / 10) (omega arith) (omega arith)) ∙ sym (more_digits t n m))

-- ---- a number is its last digit behind the others

pub decimal_one : (n : ℕ) → n < 10 → decimal n ≡ (48 + n) ∷ []
unfolding decimal
decimal_one n h = one_digit n n h

pub decimal_more : (n : ℕ) → 10 ≤ n → decimal n ≡ decimal (n / 10) ++ ((48 + n % 10) ∷ [])
unfolding decimal
decimal_more zero h = absurd (omega arith)
decimal_more (suc m) h =
    more_digits m (suc m) h ∙ ap (λ (l : List ℕ). l ++ ((48 + suc m % 10) ∷ [])) (enough m (suc m / 10) (suc m / 10) (omega arith) (le_refl (suc m / 10)))

-- what holds of numbers of one digit, and of a number where it holds of it without its last digit
module _ (P : ℕ → Type 0) (one : (n : ℕ) → n < 10 → P n) (more : (n : ℕ) → 10 ≤ n → P (n / 10) → P n) where
  up_to : (most n : ℕ) → n ≤ most → P n
  up_to zero n h = one n (omega arith)
  up_to (suc most) n h = either_size P n (one n) (λ m. more n m (up_to most (n / 10) (omega arith)))

  pub by_digits : (n : ℕ) → P n
  by_digits n = up_to n n (le_refl n)

-- ---- sizes

pub size_one : (n : ℕ) → n < 10 → length (decimal n) ≡ 1
size_one n h = ap length (decimal_one n h)

pub size_more : (n : ℕ) → 10 ≤ n → length (decimal n) ≡ length (decimal (n / 10)) + 1
size_more n h = ap length (decimal_more n h) ∙ length-append (decimal (n / 10)) ((48 + n % 10) ∷ [])

pub some_digit : (n : ℕ) → 1 ≤ length (decimal n)
some_digit n = either_size (λ (m : ℕ). 1 ≤ length (decimal m)) n (λ o. omega (arith, size_one n o)) (λ m. omega (arith, size_more n m))

-- a number below 10 ^ (k + 1) has at most k + 1 digits
pub size_most : (k n : ℕ) → n < 10 ^ suc k → length (decimal n) ≤ suc k
size_most zero n h = omega (arith, size_one n h)
size_most (suc k) n h =
    either_size (λ (m : ℕ). length (decimal m) ≤ suc (suc k)) n
    (λ o. omega (arith, size_one n o))
    (λ m. omega (arith, size_more n m, size_most k (n / 10) ((div-lt_iff_lt-mul (lit< tt)).1 (subst (λ (p : ℕ). n < p) (pow-suc 10 (suc k)) h))))

pub size_u64 : (n : ℕ) → n < 2 ^ 64 → length (decimal n) ≤ 20
size_u64 n h = size_most 19 n (lt_of_lt_of_le h (lit≤ tt))

-- a number from 10 ^ k on has at least k + 1 digits
pub size_least : (k n : ℕ) → 10 ^ k ≤ n → suc k ≤ length (decimal n)
size_least zero n h = some_digit n
size_least (suc k) n h =
    let m : 10 ^ k * 10 ≤ n = subst (λ (p : ℕ). p ≤ n) (pow-suc 10 k) h in
    let t : 10 ≤ n = omega (arith, one-le-pow k 10 (lit< tt)) in
    omega (arith, size_more n t, size_least k (n / 10) ((le-div_iff_mul-le (lit< tt)).1 m))

-- two digits at a time
pub decimal_two : (n : ℕ) → 10 ≤ n → n < 100 → decimal n ≡ (48 + n / 10) ∷ (48 + n % 10) ∷ []
decimal_two n h k = decimal_more n h ∙ ap (λ (l : List ℕ). l ++ ((48 + n % 10) ∷ [])) (decimal_one (n / 10) (omega arith))

pub decimal_two_more : (n : ℕ) → 100 ≤ n → decimal n ≡ decimal (n / 100) ++ ((48 + n % 100 / 10) ∷ (48 + n % 100 % 10) ∷ [])
decimal_two_more n h =
    let e : n / 10 / 10 ≡ n / 100 = omega arith in
    let t : n / 10 % 10 ≡ n % 100 / 10 = omega arith in
    let o : n % 10 ≡ n % 100 % 10 = omega arith in
    decimal_more n (omega arith)
    ∙ ap (λ (l : List ℕ). l ++ ((48 + n % 10) ∷ [])) (decimal_more (n / 10) (omega arith))
    ∙ append_assoc (decimal (n / 10 / 10)) ((48 + n / 10 % 10) ∷ []) ((48 + n % 10) ∷ [])
    ∙ ap (λ (m : ℕ). decimal m ++ ((48 + n / 10 % 10) ∷ (48 + n % 10) ∷ [])) e
    ∙ ap (λ (m : ℕ). decimal (n / 100) ++ ((48 + m) ∷ (48 + n % 10) ∷ [])) t
    ∙ ap (λ (m : ℕ). decimal (n / 100) ++ ((48 + n % 100 / 10) ∷ (48 + m) ∷ [])) o

pub size_two_more : (n : ℕ) → 100 ≤ n → length (decimal n) ≡ length (decimal (n / 100)) + 2
size_two_more n h = ap length (decimal_two_more n h) ∙ length-append (decimal (n / 100)) ((48 + n % 100 / 10) ∷ (48 + n % 100 % 10) ∷ [])

-- no number but 0 begins with a zero
pub no_leading_zero : (n : ℕ) → 1 ≤ n → 49 ≤ get_or (decimal n) 0 0
no_leading_zero =
    by_digits (λ (n : ℕ). 1 ≤ n → 49 ≤ get_or (decimal n) 0 0)
    (λ n h p. subst (λ (l : List ℕ). 49 ≤ get_or l 0 0) (sym (decimal_one n h)) (first n p))
    (λ n h ih p.
    subst (λ (l : List ℕ). 49 ≤ get_or l 0 0) (sym (decimal_more n h))
    (subst (λ (d : ℕ). 49 ≤ d) (sym (get_or-append (decimal (n / 10)) ((48 + n % 10) ∷ []) 0 0 (some_digit (n / 10)))) (ih (omega arith))))
  where
    first : (n : ℕ) → 1 ≤ n → 49 ≤ 48 + n
    first n p = omega arith
