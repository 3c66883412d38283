-- The loops of specs/Loops.antt: one step of each, as a loop of the program meets it, at k of n; what a loop keeps; where a search finds. Assumes nothing.
use mathlib.Core.Path.{◌≡◌, refl, sym, ap, ◌∙◌, subst}
use Prim.Native.Nat.{ℕ, zero, suc, ◌+◌, ◌-◌, ◌≤◌, ◌<◌}
use mathlib.Core.Bool.{Bool, true, false, not, cond}
use lib.Dec.{T}
use mathlib.Core.List.{List, [], ◌∷◌}
use native.Mathlib.Omega.{arith}
use native.Mathlib.Numerals.{add-one}
use native.Mathlib.Nat.{sub-zero, zero-add}
use Rattle.std.specs.Prelude.{Option, Some, None}
use Rattle.lists.specs.Each.{Each}
use Rattle.lists.specs.Loops.{loop, first, list, fold}

one_less : {n k : ℕ} → k < n → n - k ≡ suc (n - suc k)
one_less h = omega arith

none_left : (n : ℕ) → n - n ≡ zero
none_left n = omega arith

nothing_left : {n i : ℕ} → n ≤ i → n - i ≡ zero
nothing_left h = omega arith

loop_step : {S : Type 0} (f : ℕ → S → S) (n k : ℕ) (s : S) → k < n → loop f (n - k) k s ≡ loop f (n - suc k) (suc k) (f k s)
unfolding loop
loop_step f n k s h = ap (λ (m : ℕ). loop f m k s) (one_less h)

-- the three facts that a loop's invariant `loop f (n - i) i s ≡ t` asks for: at the start, after one turn of the loop, and at the end
pub loop_start : {S : Type 0} (f : ℕ → S → S) (n : ℕ) (s : S) → loop f (n - 0) 0 s ≡ loop f n 0 s
loop_start f n s = ap (λ (m : ℕ). loop f m 0 s) (sub-zero n)

pub loop_next : {S : Type 0} (f : ℕ → S → S) (n i : ℕ) (s s' t : S) → i < n → s' ≡ f i s → loop f (n - i) i s ≡ t → loop f (n - (i + 1)) (i + 1) s' ≡ t
loop_next f n i s s' t h e p =
    ap (λ (k : ℕ). loop f (n - k) k s') (add-one i) ∙ ap (loop f (n - suc i) (suc i)) e ∙ sym (loop_step f n i s h) ∙ p

pub loop_end : {S : Type 0} (f : ℕ → S → S) (n i : ℕ) (s t : S) → n ≤ i → loop f (n - i) i s ≡ t → s ≡ t
unfolding loop
loop_end f n i s t h p = sym (ap (λ (m : ℕ). loop f m i s) (nothing_left h)) ∙ p

first_hit_lem : (p : ℕ → Bool) (n k : ℕ) → k < n → p k ≡ true → first p (n - k) k ≡ Some k
unfolding first
first_hit_lem p n k h t = ap (λ (m : ℕ). first p m k) (one_less h) ∙ ap (λ (b : Bool). cond b (Some k) (first p (n - suc k) (suc k))) t

first_miss : (p : ℕ → Bool) (n k : ℕ) → k < n → p k ≡ false → first p (n - k) k ≡ first p (n - suc k) (suc k)
unfolding first
first_miss p n k h t = ap (λ (m : ℕ). first p m k) (one_less h) ∙ ap (λ (b : Bool). cond b (Some k) (first p (n - suc k) (suc k))) t

-- the facts that a search's invariant `first p (n - i) i ≡ t` asks for: at the start, where it is found, after one turn of the loop, and at the end
pub first_start : (p : ℕ → Bool) (n : ℕ) → first p (n - 0) 0 ≡ first p n 0
first_start p n = ap (λ (m : ℕ). first p m 0) (sub-zero n)

pub first_found : (p : ℕ → Bool) (n i : ℕ) (t : Option ℕ) → i < n → p i ≡ true → first p (n - i) i ≡ t → Some i ≡ t
first_found p n i t h e q = sym (first_hit_lem p n i h e) ∙ q

pub first_next : (p : ℕ → Bool) (n i : ℕ) (t : Option ℕ) → i < n → p i ≡ false → first p (n - i) i ≡ t → first p (n - (i + 1)) (i + 1) ≡ t
first_next p n i t h e q = ap (λ (k : ℕ). first p (n - k) k) (add-one i) ∙ sym (first_miss p n i h e) ∙ q

-- after several turns at a time, none of which finds: from i on, m places are skipped
pub first_skip : (p : ℕ → Bool) (n m i : ℕ) (t : Option ℕ) → i + m ≤ n → ((j : ℕ) → j < m → p (i + j) ≡ false) → first p (n - i) i ≡ t → first p (n - (i + m)) (i + m) ≡ t
first_skip p n zero i t b h q = subst (λ (k : ℕ). first p (n - k) k ≡ t) (e i) q
  where
    e : (i : ℕ) → i ≡ i + zero
    e i = omega arith
first_skip p n (suc m) i t b h q =
    subst (λ (k : ℕ). first p (n - k) k ≡ t) (e i m) (first_next p n (i + m) t (omega arith) (h m (omega arith)) (first_skip p n m i t (omega arith) (λ j l. h j (omega arith)) q))
  where
    e : (i m : ℕ) → i + m + 1 ≡ i + suc m
    e i m = omega arith

pub first_end : (p : ℕ → Bool) (n i : ℕ) (t : Option ℕ) → n ≤ i → first p (n - i) i ≡ t → None ≡ t
unfolding first
first_end p n i t h q = sym (ap (λ (m : ℕ). first p m i) (nothing_left h)) ∙ q

pub list_step : {A : Type 0} (f : ℕ → A) (n k : ℕ) → k < n → list f (n - k) k ≡ f k ∷ list f (n - suc k) (suc k)
unfolding list
list_step f n k h = ap (λ (m : ℕ). list f m k) (one_less h)

pub list_done : {A : Type 0} (f : ℕ → A) (n : ℕ) → list f (n - n) n ≡ []
unfolding list
list_done f n = ap (λ (m : ℕ). list f m n) (none_left n)

-- the facts that a fold's invariant `fold g s (list f (n - i) i) ≡ t` asks for: at the start, after one turn of the loop, and at the end
module _ {A S : Type 0} (g : S → A → S) (f : ℕ → A) (n : ℕ) where
  pub fold_start : (s : S) → fold g s (list f (n - 0) 0) ≡ fold g s (list f n 0)
  fold_start s = ap (λ (m : ℕ). fold g s (list f m 0)) (sub-zero n)

  pub fold_next : (i : ℕ) (s s' t : S) → i < n → s' ≡ g s (f i) → fold g s (list f (n - i) i) ≡ t → fold g s' (list f (n - (i + 1)) (i + 1)) ≡ t
  unfolding fold
  fold_next i s s' t h e p =
      ap (λ (k : ℕ). fold g s' (list f (n - k) k)) (add-one i)
      ∙ ap (λ (x : S). fold g x (list f (n - suc i) (suc i))) e
      ∙ sym (ap (fold g s) (list_step f n i h))
      ∙ p

  pub fold_end : (i : ℕ) (s t : S) → n ≤ i → fold g s (list f (n - i) i) ≡ t → s ≡ t
  unfolding fold list
  fold_end i s t h p = sym (ap (λ (m : ℕ). fold g s (list f m i)) (nothing_left h)) ∙ p

-- ---- what a test, a loop, a search and a fold keep

-- what holds of both sides of a test holds of its outcome
pub either {ℓ} : {A : Type ℓ} (P : A → Type 0) (b : Bool) {x y : A} → P x → P y → P (cond b x y)
either P true p q = p
either P false p q = q

-- the same, where each side may use how the test went
pub either_by : {A : Type 0} (P : A → Type 0) (b : Bool) {x y : A} → (b ≡ true → P x) → (b ≡ false → P y) → P (cond b x y)
either_by P true p q = p refl
either_by P false p q = q refl

-- and where the second side alone needs it
pub unless : {A : Type 0} (P : A → Type 0) (b : Bool) {x y : A} → P x → (T (not b) → P y) → P (cond b x y)
unless P true p q = p
unless P false p q = q tt

pub loop_keeps : {S : Type 0} (P : S → Type 0) (f : ℕ → S → S) (n k : ℕ) (s : S) → ((i : ℕ) → i < k + n → (s : S) → P s → P (f i s)) → P s → P (loop f n k s)
unfolding loop
loop_keeps P f zero k s h p = p
loop_keeps P f (suc n) k s h p = loop_keeps P f n (suc k) (f k s) (λ i b. h i (omega arith)) (h k (omega arith) s p)

-- from 0
pub loop-keeps₀ : {S : Type 0} (P : S → Type 0) (f : ℕ → S → S) (n : ℕ) (s : S) → ((i : ℕ) → i < n → (s : S) → P s → P (f i s)) → P s → P (loop f n 0 s)
loop-keeps₀ P f n s h p = loop_keeps P f n 0 s (λ i b. h i (omega arith)) p

-- what was found is below m
abbrev pub Below : ℕ → Option ℕ → Type 0
Below m (Some i) = i < m
Below m None = Unit {0}

first_in : (p : ℕ → Bool) (n k : ℕ) → Below (k + n) (first p n k)
unfolding first
first_in p zero k = tt
first_in p (suc n) k = either (Below (k + suc n)) (p k) (at_k k n) (subst (λ (m : ℕ). Below m (first p n (suc k))) (move k n) (first_in p n (suc k)))
  where
    at_k : (k n : ℕ) → k < k + suc n
    at_k k n = omega arith

    move : (k n : ℕ) → suc k + n ≡ k + suc n
    move k n = omega arith

pub first_below : (p : ℕ → Bool) (n : ℕ) → Below n (first p n 0)
first_below p n = subst (λ (m : ℕ). Below m (first p n 0)) (zero-add n) (first_in p n 0)

pub fold_keeps : {A S : Type 0} (Q : A → Type 0) (P : S → Type 0) (f : S → A → S) → ((s : S) (x : A) → P s → Q x → P (f s x)) → (s : S) (xs : List A) → P s → Each Q xs → P (fold f s xs)
unfolding fold
fold_keeps Q P f h s [] p q = p
fold_keeps Q P f h s (x ∷ xs) p q = fold_keeps Q P f h (f s x) xs (h s x p q.0) q.1
