-- What stands in a buffer after it was written, and records written as numbers one behind the other and read back. Assumes nothing.
use mathlib.Core.Path.{◌≡◌, refl, sym, ◌∙◌, ap, ap₂}
use mathlib.Core.List.{List, [], ◌∷◌, ◌++◌, append_assoc, append-nil}
use Prim.Native.Nat.{ℕ, zero, suc, ◌+◌, ◌-◌, ◌*◌, ◌/◌, ◌<◌, ◌≤◌}
use native.Mathlib.Nat.{mul-div_right}
use native.Mathlib.Numerals.{add-one}
use native.Mathlib.Omega.{arith}
use lib.Dec.{lit<}
use lib.ListN.{length, get_or, take, drop, set, take-append-drop}
use lib.Seq.{get_or-append-add, take-append_seam, drop-append_seam, drop-drop, take-suc-set, take_all}
use Rattle.lists.specs.Loops.{list, join, over}
use Rattle.lists.proofs.Lists.{join_size}

-- the first part of a buffer is what was written over it, whatever the buffer held
pub take_over : {A : Type 0} (written buffer : List A) → take (length written) (over written buffer) ≡ written
unfolding over
take_over written buffer = take-append_seam written (drop (length written) buffer)

-- ---- a buffer whose front was written over

module _ {A : Type 0} (n : ℕ) (new old written : List A) (size : n ≡ length written) where
  pub over_is : take n new ≡ written → drop n new ≡ drop n old → new ≡ over written old
  unfolding over
  over_is front behind = sym (take-append-drop n new) ∙ ap₂ (λ (a b : List A). a ++ b) front (behind ∙ ap (λ (k : ℕ). drop k old) size)

  pub over_front : new ≡ over written old → take n new ≡ written
  over_front e = ap₂ (λ (k : ℕ) (l : List A). take k l) size e ∙ take_over written old

  pub over_behind : new ≡ over written old → drop n new ≡ drop n old
  unfolding over
  over_behind e =
      ap₂ (λ (k : ℕ) (l : List A). drop k l) size e ∙ drop-append_seam written (drop (length written) old) ∙ ap (λ (k : ℕ). drop k old) (sym size)

-- what is alike behind place m is so behind every later one
pub behind_later : {A : Type 0} (m n : ℕ) (l r : List A) → m ≤ n → drop m l ≡ drop m r → drop n l ≡ drop n r
behind_later m n l r h e =
    let k : n ≡ m + (n - m) = omega arith in
    ap (λ (i : ℕ). drop i l) k ∙ sym (drop-drop (n - m) m l) ∙ ap (drop (n - m)) e ∙ drop-drop (n - m) m r ∙ ap (λ (i : ℕ). drop i r) (sym k)

-- a list filled from the front: one more element, and the end
pub fill_next : {A : Type 0} (l : List A) (k : ℕ) (v : A) (more all : List A) → k < length l → take k l ++ v ∷ more ≡ all → take (k + 1) (set l k v) ++ more ≡ all
fill_next {A} l k v more all h e =
    ap (λ (r : List A). r ++ more) (ap (λ (n : ℕ). take n (set l k v)) (add-one k) ∙ take-suc-set l k v h)
    ∙ append_assoc (take k l) (v ∷ []) more
    ∙ e

pub fill_end : {A : Type 0} (l : List A) (k : ℕ) (all : List A) → length l ≤ k → take k l ++ [] ≡ all → l ≡ all
fill_end l k all h e = sym (take_all k l h) ∙ sym (append-nil (take k l)) ∙ e

-- ---- records of w numbers each

list_shift : {A : Type 0} (f g : ℕ → A) → ((i : ℕ) → f (suc i) ≡ g i) → (n k : ℕ) → list f n (suc k) ≡ list g n k
unfolding list
list_shift f g h zero k = refl
list_shift f g h (suc n) k = ap₂ ◌∷◌ (h k) (list_shift f g h n (suc k))

-- `read ns k` is record number k of the numbers ns: the first is the one written first, and the others are those of what stands behind it
module _ {A B : Type 0} (write : A → List B) (read : List B → ℕ → A) where
  pub record Reads : Type 0 where
    pub first : (a : A) (rest : List B) → read (write a ++ rest) 0 ≡ a
    pub later : (a : A) (rest : List B) (k : ℕ) → read (write a ++ rest) (suc k) ≡ read rest k

  pub read_back : Reads → (xs : List A) → list (read (join write xs)) (length xs) 0 ≡ xs
  unfolding join list
  read_back r [] = refl
  read_back r (a ∷ xs) =
      ap₂ ◌∷◌ (r.first a (join write xs))
      (list_shift (read (write a ++ join write xs)) (read (join write xs)) (r.later a (join write xs)) (length xs) 0 ∙ read_back r xs)

  -- all of them, where each has w numbers
  pub records_back : (w : ℕ) → 0 < w → ((a : A) → length (write a) ≡ w) → Reads → (xs : List A) → list (read (join write xs)) (length (join write xs) / w) 0 ≡ xs
  records_back w h e r xs =
      ap (λ (n : ℕ). list (read (join write xs)) n 0) (ap (λ (n : ℕ). n / w) (join_size write w e xs) ∙ mul-div_right (length xs) h) ∙ read_back r xs

-- the number at place n of a list that begins with xs
pub past : {B : Type 0} (xs rest : List B) (n m : ℕ) (d : B) → n ≡ length xs + m → get_or (xs ++ rest) n d ≡ get_or rest m d
past xs rest n m d h = ap (λ (k : ℕ). get_or (xs ++ rest) k d) h ∙ get_or-append-add xs rest m d

-- ---- records of three numbers each, made of them by `make`

module _ {A B : Type 0} (make : B → B → B → A) (p q r : A → B) (whole : (a : A) → make (p a) (q a) (r a) ≡ a) (d : B) where
  abbrev pub three : A → List B
  three a = p a ∷ q a ∷ r a ∷ []

  abbrev pub three_at : List B → ℕ → A
  three_at xs k = make (get_or xs (3 * k) d) (get_or xs (3 * k + 1) d) (get_or xs (3 * k + 2) d)

  threes : Reads three three_at
  threes = record {
    first = λ a rest. whole a;
    later = λ a rest k.
        rw (past (three a) rest (3 * suc k) (3 * k) d (omega arith), past (three a) rest (3 * suc k + 1) (3 * k + 1) d (omega arith), past (three a) rest (3 * suc k + 2) (3 * k + 2) d (omega arith));
  }

  pub threes_back : (xs : List A) → list (three_at (join three xs)) (length (join three xs) / 3) 0 ≡ xs
  threes_back xs = records_back three three_at 3 (lit< tt) (λ a. refl) threes xs
