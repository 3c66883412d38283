-- Neighbours in a list made by `list`, one pair at a time, and the faces between them as they are drawn; the directions at the list's ends. Assumes nothing.
use mathlib.Core.Path.{◌≡◌, refl, sym, ap, ap₂, subst, ◌∙◌}
use mathlib.Core.List.{List, [], ◌∷◌, ◌++◌, map, append-nil, append_assoc}
use Prim.Native.Nat.{ℕ, zero, suc, ◌+◌, ◌-◌, ◌*◌, ◌≤◌, ◌<◌}
use native.Mathlib.Nat.{zero-add, add-zero, add-suc, suc-add, not-suc-le-zero}
use native.Mathlib.Numerals.{add-one}
use native.Mathlib.Omega.{arith}
use lib.ListN.{length, get_or, length-map}
use Rattle.lists.specs.Loops.{list}
use Rattle.lists.proofs.Lists.{length_list, get_d_list}
use Rattle.coords.specs.declared.Point.{Point}
use Rattle.coords_vector.specs.declared.Vector.{Vector}
use Rattle.coords.specs.Coords.{origin, diff}
use Rattle.object.specs.declared.Section.{Section}
use Rattle.face.specs.Faces.{Face}
use Rattle.face.specs.declared.Canvas.{Canvas}
use Rattle.face.specs.Contract.Drawing.{Draws}
use Rattle.face.proofs.Canvases.{draws_then}
use Rattle.scene_field.specs.Fields.{section_at, sections_at}
use Rattle.scene.proofs.Parts.{sections_length}
use Rattle.shape_section.specs.Contract.Places.{EndPlaces}
use Rattle.shape.specs.Shapes.{pairs, start_out, end_out}

pub map_list : {A B : Type 0} (f : A → B) (g : ℕ → A) (n k : ℕ) → map f (list g n k) ≡ list (λ i. f (g i)) n k
unfolding list
map_list f g zero k = refl
map_list f g (suc n) k = ap (λ (r : List _). f (g k) ∷ r) (map_list f g n (suc k))

module _ {A B : Type 0} (f : A → A → List B) (g : ℕ → A) where
  pairs_last : (k i : ℕ) → pairs f (list g (suc (suc k)) i) ≡ pairs f (list g (suc k) i) ++ f (g (i + k)) (g (suc (i + k)))
  unfolding pairs list
  pairs_last zero i = append-nil (f (g i) (g (suc i))) ∙ ap (λ (j : ℕ). f (g j) (g (suc j))) (sym (add-zero i))
  pairs_last (suc k) i =
      ap (λ (r : List B). f (g i) (g (suc i)) ++ r) (pairs_last k (suc i))
      ∙ sym (append_assoc (f (g i) (g (suc i))) (pairs f (list g (suc k) (suc i))) (f (g (suc i + k)) (g (suc (suc i + k)))))
      ∙ ap (λ (j : ℕ). (f (g i) (g (suc i)) ++ pairs f (list g (suc k) (suc i))) ++ f (g j) (g (suc j))) (suc-add i k ∙ sym (add-suc i k))

  -- with one element more, one pair more
  pub pairs_next : (k : ℕ) → 0 < k → pairs f (list g (k + 1) 0) ≡ pairs f (list g k 0) ++ f (g (k - 1)) (g k)
  pairs_next zero h = absurd (not-suc-le-zero h)
  pairs_next (suc k) h =
      let before : k ≡ suc k - 1 = omega arith in
      ap (λ (m : ℕ). pairs f (list g m 0)) (add-one (suc k))
      ∙ pairs_last k 0
      ∙ ap (λ (j : ℕ). pairs f (list g (suc k) 0) ++ f (g j) (g (suc j))) (zero-add k)
      ∙ ap (λ (j : ℕ). pairs f (list g (suc k) 0) ++ f (g j) (g (suc k))) before

-- a pair's faces drawn behind those of the pairs before it
pub pair_drawn : {A : Type 0} (f : A → A → List Face) (g : ℕ → A) (k : ℕ) {c c' c'' : Canvas} {a b : A} → 0 < k
    → Draws (pairs f (list g k 0)) c c' → a ≡ g (k - 1) → b ≡ g k → Draws (f a b) c' c'' → Draws (pairs f (list g (k + 1) 0)) c c''
pair_drawn f g k {c} {c'' = c''} h p x y q =
    subst (λ (fs : List Face). Draws fs c c'') (ap₂ (λ u w. pairs f (list g k 0) ++ f u w) x y ∙ sym (pairs_next f g k h)) (draws_then p q)

-- ---- the directions at the ends

module _ (s : List ℕ) (at : ℕ) (f : Section → Point) where
  pub point_of : (n k : ℕ) (d : Point) → k < n → get_or (map f (sections_at s n at)) k d ≡ f (section_at s (at + 48 * k))
  unfolding sections_at
  point_of n k d h =
      ap (λ (ps : List Point). get_or ps k d) (map_list f (λ k. section_at s (at + 48 * k)) n 0)
      ∙ get_d_list (λ k. f (section_at s (at + 48 * k))) n 0 k d h
      ∙ ap (λ (j : ℕ). f (section_at s (at + 48 * j))) (zero-add k)

  pub start_is : (n second : ℕ) → 0 < n → (n ≡ 1 → second ≡ at) → (2 ≤ n → second ≡ at + 48) → diff (f (section_at s at)) (f (section_at s second)) ≡ start_out (map f (sections_at s n at))
  unfolding start_out sections_at list
  start_is zero second h one more = absurd (not-suc-le-zero h)
  start_is (suc zero) second h one more =
      let e = one refl in
      ap₂ (λ (p q : ℕ). diff (f (section_at s p)) (f (section_at s q))) (omega arith) (omega arith)
  start_is (suc (suc n)) second h one more =
      let e = more (omega arith) in
      ap₂ (λ (p q : ℕ). diff (f (section_at s p)) (f (section_at s q))) (omega arith) (omega arith)

  pub end_is : (n : ℕ) → 0 < n → diff (f (section_at s (at + 48 * (n - 1)))) (f (section_at s (at + 48 * (n - 2)))) ≡ end_out (map f (sections_at s n at))
  unfolding end_out
  end_is n h =
      sym
      (ap (λ (m : ℕ). diff (get_or ps (m - 1) origin) (get_or ps (m - 2) origin)) (length-map (sections_at s n at) f ∙ sections_length s n at)
      ∙ ap₂ diff (point_of n (n - 1) origin (omega arith)) (point_of n (n - 2) origin (omega arith)))
    where
      ps : List Point
      ps = map f (sections_at s n at)

  -- what is made of a point at each end and of the two directions there, with the places that a program works out
  pub ends_are : {A : Type 0} (make : Section → Vector → Section → Vector → A) (n : ℕ) {second last previous : ℕ} → 0 < n → EndPlaces at n second last previous
      → make (section_at s at) (diff (f (section_at s at)) (f (section_at s second))) (section_at s last) (diff (f (section_at s last)) (f (section_at s previous)))
      ≡ make (section_at s at) (start_out (map f (sections_at s n at))) (section_at s (at + 48 * (n - 1))) (end_out (map f (sections_at s n at)))
  ends_are make n {second} h p =
      ap₂ (λ (l b : ℕ). make (section_at s at) (diff (f (section_at s at)) (f (section_at s second))) (section_at s l) (diff (f (section_at s l)) (f (section_at s b)))) p.end p.beside_end
      ∙ ap₂ (λ (u w : Vector). make (section_at s at) u (section_at s (at + 48 * (n - 1))) w) (start_is n second h p.alone p.others) (end_is n h)

-- the section beside the first one lies among the n sections
pub second_in : {at k bytes second last previous : ℕ} (n : ℕ) → k < n → EndPlaces at n second last previous → at + 48 * n ≤ bytes → second + 48 ≤ bytes
second_in zero h p l = absurd (not-suc-le-zero h)
second_in (suc zero) h p l = omega (arith, p.alone refl)
second_in (suc (suc n)) h p l = omega (arith, p.others (omega arith))
