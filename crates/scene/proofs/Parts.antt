-- The corners, sections and counts of a record, one by one: what a builder that reads them straight from the bytes rests on. Corner number c of an outline, its holes'
-- corners counted behind the outer ones, is the corner at place i + 24 * c (`outline_corner`). Assumes nothing.
use mathlib.Core.Path.{◌≡◌, refl, sym, ap, ◌∙◌}
use Prim.Native.Nat.{ℕ, zero, suc, ◌+◌, ◌*◌, ◌<◌}
use native.Mathlib.Nat.{zero-add, le_of_suc-le-suc, not-suc-le-zero}
use native.Mathlib.Omega.{arith}
use mathlib.Core.List.{List, [], ◌∷◌, ◌++◌, map}
use lib.ListN.{length, get_or, take}
use Rattle.lists.specs.Loops.{list, join, sum_of}
use Rattle.lists.proofs.Lists.{length_list, get_d_list, list_same, list_append}
use Rattle.object.specs.declared.Corner.{Corner}
use Rattle.object.specs.declared.Section.{Section}
use Rattle.scene_field.specs.Fields.{u16_at, corner_at, section_at, corners_at, sections_at, counts_at, holes_at}

module _ (s : List ℕ) where
  -- ---- corners

  pub corners_length : (n i : ℕ) → length (corners_at s n i) ≡ n
  unfolding corners_at
  corners_length n i = length_list (λ k. corner_at s (i + 24 * k)) n 0

  pub corners_get : (n i k : ℕ) (d : Corner) → k < n → get_or (corners_at s n i) k d ≡ corner_at s (i + 24 * k)
  unfolding corners_at
  corners_get n i k d h = get_d_list (λ k. corner_at s (i + 24 * k)) n 0 k d h ∙ ap (λ (j : ℕ). corner_at s (i + 24 * j)) (zero-add k)

  pub corners_append : (m n i : ℕ) → corners_at s (m + n) i ≡ corners_at s m i ++ corners_at s n (i + 24 * m)
  unfolding corners_at
  corners_append m n i =
      list_append (λ k. corner_at s (i + 24 * k)) m n 0
      ∙ ap (λ (r : List Corner). list (λ k. corner_at s (i + 24 * k)) m 0 ++ r)
      (list_same (λ k. corner_at s (i + 24 * k)) (λ k. corner_at s (i + 24 * m + 24 * k)) n (0 + m) 0 (λ j. ap (λ (p : ℕ). corner_at s p) (moved i m j)))
    where
      moved : (i m j : ℕ) → i + 24 * (0 + m + j) ≡ i + 24 * m + 24 * (0 + j)
      moved i m j = omega arith

  -- ---- holes

  pub holes_length : (counts : List ℕ) (i : ℕ) → length (holes_at s counts i) ≡ length counts
  unfolding holes_at
  holes_length [] i = refl
  holes_length (c ∷ cs) i = ap suc (holes_length cs (i + 24 * c))

  pub holes_get : (counts : List ℕ) (i h : ℕ) → h < length counts → get_or (holes_at s counts i) h [] ≡ corners_at s (get_or counts h 0) (i + 24 * sum_of (λ k. k) (take h counts))
  unfolding holes_at sum_of
  holes_get [] i h l = absurd (not-suc-le-zero l)
  holes_get (c ∷ cs) i zero l = ap (λ (p : ℕ). corners_at s c p) (here i)
    where
      here : (i : ℕ) → i ≡ i + 24 * 0
      here i = omega arith
  holes_get (c ∷ cs) i (suc h) l = holes_get cs (i + 24 * c) h (le_of_suc-le-suc l) ∙ ap (λ (p : ℕ). corners_at s (get_or cs h 0) p) (further i c (sum_of (λ k. k) (take h cs)))
    where
      further : (i c t : ℕ) → i + 24 * c + 24 * t ≡ i + 24 * (c + t)
      further i c t = omega arith

  pub holes_joined : (counts : List ℕ) (i : ℕ) → join (λ h. h) (holes_at s counts i) ≡ corners_at s (sum_of (λ k. k) counts) i
  unfolding holes_at join sum_of corners_at list
  holes_joined [] i = refl
  holes_joined (c ∷ cs) i = ap (λ (r : List Corner). corners_at s c i ++ r) (holes_joined cs (i + 24 * c)) ∙ sym (corners_append c (sum_of (λ k. k) cs) i)

  pub holes_size : (counts : List ℕ) (i : ℕ) → map length (holes_at s counts i) ≡ counts
  unfolding holes_at
  holes_size [] i = refl
  holes_size (c ∷ cs) i = ap (λ (n : ℕ). n ∷ map length (holes_at s cs (i + 24 * c))) (corners_length c i) ∙ ap (λ (l : List ℕ). c ∷ l) (holes_size cs (i + 24 * c))

  pub corners_count : (c i : ℕ) (counts : List ℕ) (j : ℕ) → length (corners_at s c i) + sum_of (λ k. k) (map length (holes_at s counts j)) ≡ c + sum_of (λ k. k) counts
  corners_count c i counts j = ap (λ (n : ℕ). n + sum_of (λ k. k) (map length (holes_at s counts j))) (corners_length c i) ∙ ap (λ (l : List ℕ). c + sum_of (λ k. k) l) (holes_size counts j)

  -- the outer corners and those of the holes, in one list
  pub outline_corners_lem : (outer : ℕ) (counts : List ℕ) (i : ℕ) → corners_at s outer i ++ join (λ h. h) (holes_at s counts (i + 24 * outer)) ≡ corners_at s (outer + sum_of (λ k. k) counts) i
  outline_corners_lem outer counts i = ap (λ (r : List Corner). corners_at s outer i ++ r) (holes_joined counts (i + 24 * outer)) ∙ sym (corners_append outer (sum_of (λ k. k) counts) i)

  pub outline_corner : (outer : ℕ) (counts : List ℕ) (i c : ℕ) (d : Corner) → c < outer + sum_of (λ k. k) counts
      → get_or (corners_at s outer i ++ join (λ h. h) (holes_at s counts (i + 24 * outer))) c d ≡ corner_at s (i + 24 * c)
  outline_corner outer counts i c d h = ap (λ (r : List Corner). get_or r c d) (outline_corners_lem outer counts i) ∙ corners_get (outer + sum_of (λ k. k) counts) i c d h

  -- ---- sections and counts

  pub sections_length : (n i : ℕ) → length (sections_at s n i) ≡ n
  unfolding sections_at
  sections_length n i = length_list (λ k. section_at s (i + 48 * k)) n 0

  pub sections_get : (n i k : ℕ) (d : Section) → k < n → get_or (sections_at s n i) k d ≡ section_at s (i + 48 * k)
  unfolding sections_at
  sections_get n i k d h = get_d_list (λ k. section_at s (i + 48 * k)) n 0 k d h ∙ ap (λ (j : ℕ). section_at s (i + 48 * j)) (zero-add k)

  pub counts_length : (n i : ℕ) → length (counts_at s n i) ≡ n
  unfolding counts_at
  counts_length n i = length_list (λ k. u16_at s (i + 2 * k)) n 0

  pub counts_get : (n i k : ℕ) → k < n → get_or (counts_at s n i) k 0 ≡ u16_at s (i + 2 * k)
  unfolding counts_at
  counts_get n i k h = get_d_list (λ k. u16_at s (i + 2 * k)) n 0 k 0 h ∙ ap (λ (j : ℕ). u16_at s (i + 2 * j)) (zero-add k)
