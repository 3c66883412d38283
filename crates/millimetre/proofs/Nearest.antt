-- The whole number nearest to a fraction, a tie to the even one (`closest`), told by two bounds, and what a shift by an even number and a sign do to it.
-- Nothing here is about floats. Assumes nothing.
use mathlib.Core.Path.{◌≡◌, refl, sym, ap, ◌∙◌, subst}
use mathlib.Core.Logic.{◌⊎◌, inl, inr}
use Prim.Native.Nat.{ℕ, zero, suc, ◌+◌, ◌-◌, ◌*◌, ◌/◌, ◌%◌, ◌≤◌, ◌<◌, compare, Ordering}
use native.Mathlib.Nat.{suc-mul, add-mul, div-add-mod', mod-lt, mul-le-mul_right, eq_of_mul-eq-mul_right}
use native.Mathlib.Omega.{arith}
use lib.Ieee.{nearest}
use lib.Ieee.Nearest.{closest}
use Rattle.float.proofs.Rounding.{compare_lt, compare_same, compare_gt}
use Rattle.float.proofs.RootLaw.{tri}

-- a / b is at most a half from n, and where it is a half from it n is even
pub record Near (a b n : ℕ) : Type 0 where
  pub from : 2 * (n * b) ≤ 2 * a + b
  pub to : 2 * a ≤ 2 * (n * b) + b
  pub even_from : 2 * (n * b) ≡ 2 * a + b → n % 2 ≡ 0
  pub even_to : 2 * a ≡ 2 * (n * b) + b → n % 2 ≡ 0

-- ---- there is one such number

less_not : (a b n k : ℕ) → 0 < b → Near a b n → Near a b k → n < k → ⊥
less_not a b n k B v w l =
    let m : suc n * b ≤ k * b = mul-le-mul_right b l in
    let s = suc-mul n b in
    let all : k * b ≡ suc n * b = omega (arith, v.to, w.from) in
    let next : k ≡ suc n = eq_of_mul-eq-mul_right b B k (suc n) all in
    let p : n % 2 ≡ 0 = v.even_to (omega (arith, v.to, w.from)) in
    let q : k % 2 ≡ 0 = w.even_from (omega (arith, v.to, w.from)) in
    omega arith

pub near_one : (a b n k : ℕ) → 0 < b → Near a b n → Near a b k → n ≡ k
near_one a b n k B v w = go (tri n k)
  where
    go : (n < k) ⊎ ((n ≡ k) ⊎ (k < n)) → n ≡ k
    go (inl l) = absurd (less_not a b n k B v w l)
    go (inr (inl e)) = e
    go (inr (inr l)) = absurd (less_not a b k n B w v l)

-- ---- `closest` is it

nearest_near : (a b q r : ℕ) → 0 < b → q * b + r ≡ a → r < b → Near a b (nearest q (compare (r * 2) b))
nearest_near a b q r B e l = go (tri (r * 2) b)
  where
    below : r * 2 < b → Near a b q
    below h = record { from = omega arith; to = omega arith; even_from = λ t. omega arith; even_to = λ t. omega arith }

    above : b < r * 2 → Near a b (suc q)
    above h = let s = suc-mul q b in record { from = omega arith; to = omega arith; even_from = λ t. omega arith; even_to = λ t. omega arith }

    middle : r * 2 ≡ b → (p : ℕ) → q % 2 ≡ p → p < 2 → Near a b (q + p)
    middle h zero d p = record { from = omega arith; to = omega arith; even_from = λ t. omega arith; even_to = λ t. omega arith }
    middle h (suc zero) d p =
        let s = add-mul q 1 b in
        record { from = omega arith; to = omega arith; even_from = λ t. omega arith; even_to = λ t. omega arith }
    middle h (suc (suc p)) d g = omega arith

    go : (r * 2 < b) ⊎ ((r * 2 ≡ b) ⊎ (b < r * 2)) → Near a b (nearest q (compare (r * 2) b))
    go (inl h) = subst (λ (o : Ordering). Near a b (nearest q o)) (sym (compare_lt (r * 2) b h)) (below h)
    go (inr (inl h)) = subst (λ (o : Ordering). Near a b (nearest q o)) (sym (ap (λ (x : ℕ). compare x b) h ∙ compare_same b)) (middle h (q % 2) refl (omega arith))
    go (inr (inr h)) = subst (λ (o : Ordering). Near a b (nearest q o)) (sym (compare_gt (r * 2) b h)) (above h)

pub closest_near : (a b : ℕ) → 0 < b → Near a b (closest a b)
closest_near a b B = nearest_near a b (a / b) (a % b) B (div-add-mod' a b) (mod-lt a B)

-- ---- an even number on, and an even number less it

pub closest_on : (a b k : ℕ) → 0 < b → closest (a + 2 * k * b) b ≡ closest a b + 2 * k
closest_on a b k B = near_one (a + 2 * k * b) b (closest (a + 2 * k * b) b) (closest a b + 2 * k) B (closest_near (a + 2 * k * b) b B) (moved (closest a b) (closest_near a b B))
  where
    moved : (n : ℕ) → Near a b n → Near (a + 2 * k * b) b (n + 2 * k)
    moved n v =
        let s = add-mul n (2 * k) b in
        record { from = omega (arith, v.from); to = omega (arith, v.to); even_from = λ t. (let p : n % 2 ≡ 0 = v.even_from (omega arith) in omega arith); even_to = λ t. (let p : n % 2 ≡ 0 = v.even_to (omega arith) in omega arith) }

-- of a fraction of at most k the nearest whole number is at most k
pub near_le : (a b n k : ℕ) → Near a b n → 0 < b → a ≤ k * b → n ≤ k
near_le a b n k v B h = go (tri n k)
  where
    over : k < n → ⊥
    over l = let m : suc k * b ≤ n * b = mul-le-mul_right b l in omega (arith, v.from, suc-mul k b)

    go : (n < k) ⊎ ((n ≡ k) ⊎ (k < n)) → n ≤ k
    go (inl l) = omega arith
    go (inr (inl e)) = omega arith
    go (inr (inr l)) = absurd (over l)

pub closest_less : (a b k : ℕ) → 0 < b → a ≤ 2 * k * b → closest (2 * k * b - a) b ≡ 2 * k - closest a b
closest_less a b k B h = near_one (2 * k * b - a) b (closest (2 * k * b - a) b) (2 * k - closest a b) B (closest_near (2 * k * b - a) b B) (turned (closest a b) (closest_near a b B))
  where
    turned : (n : ℕ) → Near a b n → Near (2 * k * b - a) b (2 * k - n)
    turned n v =
        let l : n ≤ 2 * k = near_le a b n (2 * k) v B h in
        let w : 2 * k - n + n ≡ 2 * k = omega arith in
        let s : (2 * k - n) * b + n * b ≡ 2 * k * b = sym (add-mul (2 * k - n) n b) ∙ ap (λ (x : ℕ). x * b) w in
        record { from = omega (arith, v.to); to = omega (arith, v.from); even_from = λ t. (let p : n % 2 ≡ 0 = v.even_to (omega arith) in omega arith); even_to = λ t. (let p : n % 2 ≡ 0 = v.even_from (omega arith) in omega arith) }
