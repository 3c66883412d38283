-- What `first` found, and what it passed. Assumes nothing.
use mathlib.Core.Path.{◌≡◌, refl, sym, ap}
use mathlib.Core.Bool.{Bool, true, false, cond}
use Prim.Native.Nat.{ℕ, zero, suc, ◌+◌, ◌<◌, ◌≤◌}
use native.Mathlib.Numerals.{add-one}
use native.Mathlib.Omega.{arith}
use lib.Dec.{eqb}
use borrow.Author.Tests.{eqb-true, eqb-false}
use Rattle.std.specs.Prelude.{Some, None}
use Rattle.lists.specs.Loops.{first}
use Rattle.lid_clip_ear.specs.Contract.Ears.{behind}

-- j is the first of the m numbers from k on that passes the test
pub record Hit (p : ℕ → Bool) (m k j : ℕ) : Type 0 where
  pub from : k ≤ j
  pub within : j < k + m
  pub hit : p j ≡ true
  pub missed : (l : ℕ) → k ≤ l → l < j → p l ≡ false

-- one number more, which does not pass
one_more : (p : ℕ → Bool) (k l : ℕ) → p k ≡ false → k ≤ l → (suc k ≤ l → p l ≡ false) → p l ≡ false
one_more p k l e h more = go (eqb l k) refl
  where
    go : (t : Bool) → eqb l k ≡ t → p l ≡ false
    go true t = let z : l ≡ k = eqb-true l k t in rw z e
    go false t = let z : (l ≡ k → ⊥) = eqb-false l k t in more (omega arith)

pub first_hit_lem : (p : ℕ → Bool) (m k j : ℕ) → first p m k ≡ Some j → Hit p m k j
unfolding first
first_hit_lem p zero k j e = absurd (let z : ◌≡◌ {A = ℕ} 0 1 = cc in omega arith)
first_hit_lem p (suc m) k j e = go (p k) refl e (λ r. first_hit_lem p m (suc k) j r)
  where
    go : (t : Bool) → p k ≡ t → cond t (Some k) (first p m (suc k)) ≡ Some j → (first p m (suc k) ≡ Some j → Hit p m (suc k) j) → Hit p (suc m) k j
    go true t e later =
        let z : k ≡ j = cc in
        record { from = omega arith; within = omega arith; hit = rw (← z) t; missed = λ l g h. absurd (let n : ⊥ = omega arith in n) }
    go false t e later =
        let h = later e in
        record { from = omega (arith, h.from); within = omega (arith, h.within); hit = h.hit; missed = λ l g b. one_more p k l t g (λ s. h.missed l s b) }

pub first_miss : (p : ℕ → Bool) (m k : ℕ) → first p m k ≡ None → (l : ℕ) → k ≤ l → l < k + m → p l ≡ false
unfolding first
first_miss p zero k e l g h = absurd (let n : ⊥ = omega arith in n)
first_miss p (suc m) k e l g h = go (p k) refl e (λ r s. first_miss p m (suc k) r l s (omega arith))
  where
    go : (t : Bool) → p k ≡ t → cond t (Some k) (first p m (suc k)) ≡ None → (first p m (suc k) ≡ None → suc k ≤ l → p l ≡ false) → p l ≡ false
    go true t e later = absurd (let z : ◌≡◌ {A = ℕ} 0 1 = cc in omega arith)
    go false t e later = one_more p k l t g (later e)

-- the numbers one higher
pub first_behind : (p : ℕ → Bool) (m k : ℕ) → first p m (suc k) ≡ behind (first (λ j. p (suc j)) m k)
unfolding first behind
first_behind p zero k = refl
first_behind p (suc m) k = go (p (suc k)) (first_behind p m (suc k))
  where
    go : (t : Bool) → first p m (suc (suc k)) ≡ behind (first (λ j. p (suc j)) m (suc k)) → cond t (Some (suc k)) (first p m (suc (suc k))) ≡ behind (cond t (Some k) (first (λ j. p (suc j)) m (suc k)))
    go true later = ap Some (sym (add-one k))
    go false later = later

-- tests that agree where they are made
pub first_same : (p q : ℕ → Bool) (m k : ℕ) → ((l : ℕ) → k ≤ l → l < k + m → p l ≡ q l) → first p m k ≡ first q m k
unfolding first
first_same p q zero k e = refl
first_same p q (suc m) k e = rw (e k (omega arith) (omega arith)) (ap (cond (q k) (Some k)) (first_same p q m (suc k) (λ l g h. e l (omega arith) (omega arith))))
