-- Rings of points: an array filled one place after the other, and its points as numbers. Assumes nothing.
use mathlib.Core.Path.{◌≡◌, refl, sym, ap, ap₂, ◌∙◌}
use mathlib.Core.List.{List, ◌++◌, append-nil}
use Prim.Native.Nat.{ℕ, suc, ◌+◌, ◌-◌, ◌*◌, ◌<◌, ◌≤◌}
use native.Mathlib.Nat.{zero-add}
use native.Mathlib.Numerals.{add-one}
use native.Mathlib.Omega.{arith}
use lib.ListN.{length, get_or, set, drop, drop_of_length-le}
use lib.Seq.{drop-cons, set_at, append_snoc, sets, sets-eq, ext_get_or}
use lib.Ieee.{Float}
use Rattle.lists.specs.Loops.{list, join}
use Rattle.lists.proofs.Lists.{length_list, get_d_list, get_d_any}
use Rattle.lists.proofs.Stores.{sets_three, store_start, store_next, store_end}
use Rattle.coords.specs.declared.Point.{Point}
use Rattle.coords.specs.Coords.{origin}
use Rattle.coords.specs.Buffers.{vertex_record, vertex_numbers}
use Rattle.coords.proofs.Buffers.{vertices_size}
use Rattle.face.proofs.Canvases.{list_more}

-- one turn of a loop that fills an array with f 0, f 1, ..
pub fill_next : {A : Type 0} (f : ℕ → A) (l : List A) (k : ℕ) (d : A) → k < length l → set (list f k 0 ++ drop k l) k (f k) ≡ list f (k + 1) 0 ++ drop (k + 1) l
fill_next {A} f l k d h =
    ap (λ (r : List A). set (list f k 0 ++ r) k (f k)) (drop-cons l k d h)
    ∙ set_at (list f k 0) (get_or l k d) (drop (suc k) l) (f k) k (length_list f k 0)
    ∙ sym (append_snoc (list f k 0) (f k) (drop (suc k) l))
    ∙ ap₂ ◌++◌ (sym (list_more f k)) (ap (λ (j : ℕ). drop j l) (sym (add-one k)))

-- ---- the points of a ring as numbers

list_get_d : {A : Type 0} (xs : List A) (d : A) → list (λ i. get_or xs i d) (length xs) 0 ≡ xs
list_get_d {A} xs d =
    let f : ℕ → A = λ i. get_or xs i d in
    ext_get_or d (list f (length xs) 0) xs (length_list f (length xs) 0)
    (λ i h. get_d_list f (length xs) 0 i d (rw (length_list f (length xs) 0) at h) ∙ ap f (zero-add i))

-- with the points from k on stored too, s holds t
abbrev pub Laid : List Point → ℕ → List Float → List Float → Type 0
Laid ring k s t = sets s (3 * (0 + k)) (join vertex_record (list (λ i. get_or ring i origin) (length ring - k) k)) ≡ t

pub laid_start : (ring : List Point) (s : List Float) → length s ≡ 3 * length ring → Laid ring 0 s (vertex_numbers ring)
unfolding vertex_numbers
laid_start ring s h =
    let ns = join vertex_record ring in
    let m = vertices_size ring in
    let all : length s ≤ 0 + length ns = omega arith in
    store_start vertex_record 3 (λ p. refl) (λ i. get_or ring i origin) (length ring) 0 s
    ∙ ap (λ (ps : List Point). sets s 0 (join vertex_record ps)) (list_get_d ring origin)
    ∙ sets-eq ns s 0 (omega arith)
    ∙ ap (λ (r : List Float). ns ++ r) (drop_of_length-le s all)
    ∙ append-nil ns

pub laid_next : (ring : List Point) (k : ℕ) (s t : List Float) (d : Point) → k < length ring → Laid ring k s t
    → Laid ring (k + 1) (set (set (set s (3 * k) (get_or ring k d).x) (3 * k + 1) (get_or ring k d).y) (3 * k + 2) (get_or ring k d).z) t
laid_next ring k s t d h e =
    store_next vertex_record 3 (λ p. refl) (λ i. get_or ring i origin) (length ring) 0 k s _ t h
    (sets_three s (3 * k) (get_or ring k d).x (get_or ring k d).y (get_or ring k d).z
    ∙ rw (get_d_any ring k d origin h, zero-add k)) e

pub laid_end : (ring : List Point) (k : ℕ) (s t : List Float) → length ring ≤ k → Laid ring k s t → s ≡ t
laid_end ring k s t h e = store_end vertex_record 3 (λ p. refl) (λ i. get_or ring i origin) (length ring) 0 k s t h e
