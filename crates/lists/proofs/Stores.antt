-- Runs of stores, `sets`, which leave out what lies past the end. Assumes nothing.
use mathlib.Core.Path.{◌≡◌, refl, sym, ap, ◌∙◌}
use mathlib.Core.List.{List, [], ◌∷◌, ◌++◌, map, map-append}
use Prim.Native.Nat.{ℕ, zero, suc, ◌+◌, ◌-◌, ◌*◌, ◌≤◌, ◌<◌}
use native.Mathlib.Nat.{add-zero, zero-add, add-suc, suc-add, sub-zero, mul-suc, mul-add}
use native.Mathlib.Numerals.{add-one}
use native.Mathlib.Omega.{arith}
use lib.ListN.{length, get_or, set, drop, length-map, drop_of_length-le}
use lib.Seq.{sets, sets-eq, drop-cons}
use Rattle.lists.specs.Loops.{list, join, over}
use Rattle.lists.proofs.Loops.{list_step}
use Rattle.lists.proofs.Lists.{join_append, join_size}

module _ {A : Type 0} where
  -- one run behind another
  pub sets_append : (l : List A) (i : ℕ) (a b : List A) → sets (sets l i a) (i + length a) b ≡ sets l i (a ++ b)
  sets_append l i [] b = rw add-zero
  sets_append l i (x ∷ a) b = rw (add-suc, ← suc-add) (sets_append (set l i x) (suc i) a b)

  -- where there is no place every store is left out
  pub sets_none : (l : List A) (i : ℕ) (w : List A) → length l ≡ 0 → l ≡ sets l i w
  sets_none [] i [] h = refl
  sets_none [] i (x ∷ w) h = sets_none [] (suc i) w refl
  sets_none (y ∷ l) i w h = absurd (omega arith)

  -- a run stored from the start on, with room for it
  pub sets_over : (w l : List A) → length w ≤ length l → sets l 0 w ≡ over w l
  unfolding over
  sets_over w l h = let k : 0 + length w ≤ length l = omega arith in sets-eq w l 0 k ∙ rw zero-add

  -- three stores one after the other
  pub sets_three : (l : List A) (i : ℕ) (x y z : A) → set (set (set l i x) (i + 1) y) (i + 2) z ≡ sets l i (x ∷ y ∷ z ∷ [])
  sets_three l i x y z = rw (two, add-one i)
    where
      two : i + 2 ≡ suc (suc i)
      two = omega arith

  -- four
  pub sets_four : (l : List A) (i : ℕ) (x y z w : A) → set (set (set (set l i x) (i + 1) y) (i + 2) z) (i + 3) w ≡ sets l i (x ∷ y ∷ z ∷ w ∷ [])
  sets_four l i x y z w = rw (three, two, add-one i)
    where
      two : i + 2 ≡ suc (suc i)
      two = omega arith

      three : i + 3 ≡ suc (suc (suc i))
      three = omega arith

-- records of w numbers stored behind others
pub records_behind : {A B : Type 0} (write : A → List B) (w : ℕ) → ((a : A) → length (write a) ≡ w) → (l : List B) (n : ℕ) (xs ys : List A)
    → sets (sets l (w * n) (join write xs)) (w * (n + length xs)) (join write ys) ≡ sets l (w * n) (join write (xs ++ ys))
records_behind write w wide l n xs ys =
    ap (λ (i : ℕ). sets (sets l (w * n) (join write xs)) i (join write ys)) (mul-add w n (length xs) ∙ ap (λ (k : ℕ). w * n + k) (sym (join_size write w wide xs)))
    ∙ sets_append l (w * n) (join write xs) (join write ys)
    ∙ ap (sets l (w * n)) (sym (join_append write xs ys))

-- the images of their numbers stored behind those of others
pub images_behind : {A B C : Type 0} (f : B → C) (write : A → List B) (w : ℕ) → ((a : A) → length (write a) ≡ w) → (l : List C) (n : ℕ) (xs ys : List A)
    → sets (sets l (w * n) (map f (join write xs))) (w * (n + length xs)) (map f (join write ys)) ≡ sets l (w * n) (map f (join write (xs ++ ys)))
images_behind f write w wide l n xs ys =
    ap (λ (i : ℕ). sets (sets l (w * n) (map f (join write xs))) i (map f (join write ys))) (mul-add w n (length xs) ∙ ap (λ (k : ℕ). w * n + k) (sym (length-map (join write xs) f ∙ join_size write w wide xs)))
    ∙ sets_append l (w * n) (map f (join write xs)) (map f (join write ys))
    ∙ ap (sets l (w * n)) (sym (ap (map f) (join_append write xs ys) ∙ map-append f (join write xs) (join write ys)))

-- The image of each element of a list, stored one after the other from the start: the facts that a loop's invariant
-- `sets s i (map f (drop i xs)) ≡ t` asks for, after one turn of the loop and at the end.
module _ {A B : Type 0} (f : A → B) (xs : List A) (t : List B) where
  pub image_next : (i : ℕ) (s : List B) (d : A) → i < length xs → sets s i (map f (drop i xs)) ≡ t → sets (set s i (f (get_or xs i d))) (i + 1) (map f (drop (i + 1) xs)) ≡ t
  image_next i s d h p =
      ap (λ (k : ℕ). sets (set s i (f (get_or xs i d))) k (map f (drop k xs))) (add-one i)
      ∙ sym (ap (λ (l : List A). sets s i (map f l)) (drop-cons xs i d h))
      ∙ p

  pub image_end : (i : ℕ) (s : List B) → length xs ≤ i → sets s i (map f (drop i xs)) ≡ t → s ≡ t
  image_end i s h p = sym (ap (λ (l : List A). sets s i (map f l)) (drop_of_length-le xs h)) ∙ p

-- Records of w numbers, stored one after the other from place `at` on, counted in records: the facts that a loop's invariant
-- `sets s (w * (at + i)) (join write (list f (n - i) i)) ≡ t` asks for, at the start, after one turn of the loop, and at the end.
module _ {A B : Type 0} (write : A → List B) (w : ℕ) (wide : (a : A) → length (write a) ≡ w) (f : ℕ → A) (n at : ℕ) where
  pub store_start : (s : List B) → sets s (w * (at + 0)) (join write (list f (n - 0) 0)) ≡ sets s (w * at) (join write (list f n 0))
  store_start s = rw (add-zero, sub-zero)

  pub store_next : (i : ℕ) (s s' t : List B) → i < n → s' ≡ sets s (w * (at + i)) (write (f i)) → sets s (w * (at + i)) (join write (list f (n - i) i)) ≡ t
      → sets s' (w * (at + (i + 1))) (join write (list f (n - (i + 1)) (i + 1))) ≡ t
  unfolding join
  store_next i s s' t h e p =
      ap (λ (k : ℕ). sets s' (w * (at + k)) (join write (list f (n - k) k))) (add-one i)
      ∙ ap (λ (l : List B). sets l (w * (at + suc i)) rest) e
      ∙ ap (λ (k : ℕ). sets (sets s (w * (at + i)) (write (f i))) k rest) place
      ∙ sets_append s (w * (at + i)) (write (f i)) rest
      ∙ sym (ap (λ (l : List A). sets s (w * (at + i)) (join write l)) (list_step f n i h))
      ∙ p
    where
      rest : List B
      rest = join write (list f (n - suc i) (suc i))

      place : w * (at + suc i) ≡ w * (at + i) + length (write (f i))
      place = ap (λ (k : ℕ). w * k) (add-suc at i) ∙ mul-suc w (at + i) ∙ ap (λ (k : ℕ). w * (at + i) + k) (sym (wide (f i)))

  pub store_end : (i : ℕ) (s t : List B) → n ≤ i → sets s (w * (at + i)) (join write (list f (n - i) i)) ≡ t → s ≡ t
  unfolding join list
  store_end i s t h p = sym (ap (λ (m : ℕ). sets s (w * (at + i)) (join write (list f m i))) none) ∙ p
    where
      none : n - i ≡ zero
      none = omega arith
