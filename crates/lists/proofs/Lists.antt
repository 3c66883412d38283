-- Laws of the list functions of specs/Loops.antt, and of `Each`. Assumes nothing.
use mathlib.Core.Path.{◌≡◌, refl, sym, ◌∙◌, ap, subst}
use mathlib.Core.Logic.{inl, inr}
use mathlib.Core.Bool.{Bool, true, false, cond}
use mathlib.Core.List.{List, [], ◌∷◌, ◌++◌, map, reverse_aux, append_assoc}
use Prim.Native.Nat.{ℕ, zero, suc, ◌+◌, ◌*◌, ◌≤◌, ◌<◌}
use native.Mathlib.Nat.{zero-add, add-zero, add-suc, suc-add, add_assoc, add_comm, mul-zero, mul-suc, le_refl, eq-or-lt_of_le, le_of_suc-le-suc, not-suc-le-zero}
use native.Mathlib.Omega.{arith}
use lib.Dec.{T}
use lib.Ieee.Fits.{and_l, and_r}
use lib.ListN.{length, get_or, take, drop, replicate, length-append}
use Rattle.lists.specs.Each.{Each}
use Rattle.lists.specs.Loops.{list, join, sum_of, every}

-- ---- sums

module _ {A : Type 0} (f : A → ℕ) where
  pub sum_append : (xs ys : List A) → sum_of f (xs ++ ys) ≡ sum_of f xs + sum_of f ys
  unfolding sum_of
  sum_append [] ys = sym (zero-add (sum_of f ys))
  sum_append (x ∷ xs) ys = ap (λ (n : ℕ). f x + n) (sum_append xs ys) ∙ sym (add_assoc (f x) (sum_of f xs) (sum_of f ys))

  -- of elements that add c each
  pub sum_list : (c : ℕ) (g : ℕ → A) → ((k : ℕ) → f (g k) ≡ c) → (n k : ℕ) → sum_of f (list g n k) ≡ c * n
  unfolding sum_of list
  sum_list c g h zero k = sym (mul-zero c)
  sum_list c g h (suc n) k =
      ap (λ (m : ℕ). m + sum_of f (list g n (suc k))) (h k) ∙ ap (λ (m : ℕ). c + m) (sum_list c g h n (suc k)) ∙ add_comm c (c * n) ∙ sym (mul-suc c n)

-- ---- lengths

pub length_list : {A : Type 0} (f : ℕ → A) (n k : ℕ) → length (list f n k) ≡ n
unfolding list
length_list f zero k = refl
length_list f (suc n) k = ap suc (length_list f n (suc k))

-- of elements that give w each
pub join_size : {A B : Type 0} (g : A → List B) (w : ℕ) → ((a : A) → length (g a) ≡ w) → (xs : List A) → length (join g xs) ≡ w * length xs
unfolding join
join_size g w h [] = sym (mul-zero w)
join_size g w h (x ∷ xs) =
    length-append (g x) (join g xs) ∙ ap (λ (n : ℕ). n + length (join g xs)) (h x) ∙ ap (λ (n : ℕ). w + n) (join_size g w h xs) ∙ add_comm w (w * length xs) ∙ sym (mul-suc w (length xs))

pub join_append : {A B : Type 0} (g : A → List B) (xs ys : List A) → join g (xs ++ ys) ≡ join g xs ++ join g ys
unfolding join
join_append g [] ys = refl
join_append g (x ∷ xs) ys = ap (λ (l : List _). g x ++ l) (join_append g xs ys) ∙ sym (append_assoc (g x) (join g xs) (join g ys))

pub map-append : {A B : Type 0} (f : A → B) (xs ys : List A) → map f (xs ++ ys) ≡ map f xs ++ map f ys
map-append f [] ys = refl
map-append f (x ∷ xs) ys = ap (λ (l : List _). f x ∷ l) (map-append f xs ys)

-- ---- what holds of each element

module _ {A : Type 0} (P : A → Type 0) where
  pub each_append : (xs ys : List A) → Each P xs → Each P ys → Each P (xs ++ ys)
  each_append [] ys p q = q
  each_append (x ∷ xs) ys p q = (p.0, each_append xs ys p.1 q)

  pub each_take : (n : ℕ) (xs : List A) → Each P xs → Each P (take n xs)
  each_take zero xs p = tt
  each_take (suc n) [] p = tt
  each_take (suc n) (x ∷ xs) p = (p.0, each_take n xs p.1)

  pub each_drop : (n : ℕ) (xs : List A) → Each P xs → Each P (drop n xs)
  each_drop zero xs p = p
  each_drop (suc n) [] p = tt
  each_drop (suc n) (x ∷ xs) p = each_drop n xs p.1

  pub each_reverse_aux : (xs ys : List A) → Each P xs → Each P ys → Each P (reverse_aux xs ys)
  each_reverse_aux [] ys p q = q
  each_reverse_aux (x ∷ xs) ys p q = each_reverse_aux xs (x ∷ ys) p.1 (p.0, q)

  pub each_cond : (b : Bool) (xs ys : List A) → Each P xs → Each P ys → Each P (cond b xs ys)
  each_cond true xs ys p q = p
  each_cond false xs ys p q = q

  pub each_at : (xs : List A) (i : ℕ) (d : A) → i < length xs → Each P xs → P (get_or xs i d)
  each_at [] i d h q = absurd (not-suc-le-zero h)
  each_at (x ∷ xs) zero d h q = q.0
  each_at (x ∷ xs) (suc i) d h q = each_at xs i d (le_of_suc-le-suc h) q.1

  -- at any place, where the default has it too
  pub each_get_d : (xs : List A) (d : A) → P d → Each P xs → (i : ℕ) → P (get_or xs i d)
  each_get_d [] d q p i = q
  each_get_d (x ∷ xs) d q p zero = p.0
  each_get_d (x ∷ xs) d q p (suc i) = each_get_d xs d q p.1 i

-- from what holds of the elements of another list
module _ {A B : Type 0} (P : A → Type 0) (Q : B → Type 0) where
  pub each_map : (f : A → B) → ((a : A) → P a → Q (f a)) → (xs : List A) → Each P xs → Each Q (map f xs)
  each_map f h [] p = tt
  each_map f h (x ∷ xs) p = (h x p.0, each_map f h xs p.1)

  pub each_join : (f : A → List B) → ((a : A) → P a → Each Q (f a)) → (xs : List A) → Each P xs → Each Q (join f xs)
  unfolding join
  each_join f h [] p = tt
  each_join f h (x ∷ xs) p = each_append Q (f x) (join f xs) (h x p.0) (each_join f h xs p.1)

pub each_imp : {A : Type 0} (P Q : A → Type 0) → ((a : A) → P a → Q a) → (xs : List A) → Each P xs → Each Q xs
each_imp P Q h [] p = tt
each_imp P Q h (x ∷ xs) p = (h x p.0, each_imp P Q h xs p.1)

-- what holds of every value holds of each element
pub each_any : {A : Type 0} (P : A → Type 0) → ((a : A) → P a) → (xs : List A) → Each P xs
each_any P h [] = tt
each_any P h (x ∷ xs) = (h x, each_any P h xs)

-- ---- what is made by `list`

pub each_list : {A : Type 0} (P : A → Type 0) (f : ℕ → A) (n k : ℕ) → ((i : ℕ) → k ≤ i → i < k + n → P (f i)) → Each P (list f n k)
unfolding list
each_list P f zero k h = tt
each_list P f (suc n) k h = (h k (le_refl k) (inside k n), each_list P f n (suc k) (λ i a b. h i (below i k a) (shift i k n b)))
  where
    inside : (k n : ℕ) → k < k + suc n
    inside k n = omega arith

    below : (i k : ℕ) → suc k ≤ i → k ≤ i
    below i k h = omega arith

    shift : (i k n : ℕ) → i < suc k + n → i < k + suc n
    shift i k n h = omega arith

-- a test that every element passes, at one of them
pub every_list : {A : Type 0} (p : A → Bool) (f : ℕ → A) (n k i : ℕ) → T (every p (list f n k)) → k ≤ i → i < k + n → T (p (f i))
unfolding every list
every_list p f zero k i t a b = absurd (none k i a b)
  where
    none : (k i : ℕ) → k ≤ i → i < k + 0 → ⊥
    none k i a b = omega arith
every_list p f (suc n) k i t a b =
    elim (eq-or-lt_of_le a) [
      | inl e ↦ subst (λ (j : ℕ). T (p (f j))) e (and_l (p (f k)) (every p (list f n (suc k))) t)
      | inr l ↦ every_list p f n (suc k) i (and_r (p (f k)) (every p (list f n (suc k))) t) l (shift i k n b)
    ]
  where
    shift : (i k n : ℕ) → i < k + suc n → i < suc k + n
    shift i k n h = omega arith

-- the element of a list of values of f
pub get_d_list : {A : Type 0} (f : ℕ → A) (n k i : ℕ) (d : A) → i < n → get_or (list f n k) i d ≡ f (k + i)
unfolding list
get_d_list f zero k i d h = absurd (not-suc-le-zero h)
get_d_list f (suc n) k zero d h = ap f (sym (add-zero k))
get_d_list f (suc n) k (suc i) d h = get_d_list f n (suc k) i d (le_of_suc-le-suc h) ∙ ap f (suc-add k i ∙ sym (add-suc k i))

-- a list of one value
pub list_constant : {A : Type 0} (x : A) (n k : ℕ) → list (λ i. x) n k ≡ replicate n x
unfolding list
list_constant x zero k = refl
list_constant x (suc n) k = ap (λ (l : List _). x ∷ l) (list_constant x n (suc k))

-- an element that the list has does not turn on the default
pub get_d_any : {A : Type 0} (l : List A) (i : ℕ) (d e : A) → i < length l → get_or l i d ≡ get_or l i e
get_d_any [] i d e h = absurd (not-suc-le-zero h)
get_d_any (x ∷ xs) zero d e h = refl
get_d_any (x ∷ xs) (suc i) d e h = get_d_any xs i d e (le_of_suc-le-suc h)

-- two such lists in step, and one behind the other
pub list_same : {A : Type 0} (f g : ℕ → A) (n a b : ℕ) → ((j : ℕ) → f (a + j) ≡ g (b + j)) → list f n a ≡ list g n b
unfolding list
list_same f g zero a b h = refl
list_same f g (suc n) a b h =
    ap (λ x. x ∷ list f n (suc a)) (ap f (sym (add-zero a)) ∙ h 0 ∙ ap g (add-zero b))
    ∙ ap (λ r. g b ∷ r) (list_same f g n (suc a) (suc b) (λ j. ap f (suc-add a j ∙ sym (add-suc a j)) ∙ h (suc j) ∙ ap g (add-suc b j ∙ sym (suc-add b j))))

pub list_append : {A : Type 0} (f : ℕ → A) (m n a : ℕ) → list f (m + n) a ≡ list f m a ++ list f n (a + m)
unfolding list
list_append f zero n a = ap (λ (k : ℕ). list f k a) (zero-add n) ∙ ap (λ (k : ℕ). list f n k) (sym (add-zero a))
list_append f (suc m) n a =
    ap (λ (k : ℕ). list f k a) (suc-add m n)
    ∙ ap (λ r. f a ∷ r) (list_append f m n (suc a) ∙ ap (λ (k : ℕ). list f m (suc a) ++ list f n k) (suc-add a m ∙ sym (add-suc a m)))
