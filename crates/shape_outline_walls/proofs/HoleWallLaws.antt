-- The walls of an outline's holes, one hole after the other. Assumes nothing.
use mathlib.Core.Path.{◌≡◌, sym, ap, ap₂, ◌∙◌, subst}
use Prim.Native.Nat.{ℕ, ◌+◌, ◌-◌, ◌*◌, ◌<◌, ◌≤◌}
use native.Mathlib.Nat.{add-zero}
use native.Mathlib.Omega.{arith}
use mathlib.Core.List.{List, [], ◌∷◌, ◌++◌, append-nil}
use Rattle.lists.specs.Loops.{list, join, sum_of}
use Rattle.lists.proofs.Lists.{list_append, sum_append, join_append}
use Rattle.coords_vector.specs.declared.Vector.{Vector}
use Rattle.coords_vector.specs.Vectors.{negate}
use Rattle.object.specs.declared.Corner.{Corner}
use Rattle.scene_field.specs.Fields.{u16_at, corners_at, counts_at, holes_at}
use Rattle.scene.proofs.Parts.{corners_length, holes_size}
use Rattle.face.specs.Faces.{Face}
use Rattle.face.specs.declared.Canvas.{Canvas}
use Rattle.face.specs.Contract.Drawing.{CountableOn, Draws}
use Rattle.face.proofs.Canvases.{list_more, draws_then, draws_countable}
use Rattle.lid_plane.specs.Plane.{about}
use Rattle.shape.specs.Shapes.{walls, hole_walls}
use Rattle.shape.proofs.Sizes.{sum_lengths, holes_points}
use Rattle.shape.proofs.Prices.{holes_count}

-- the walls of a hole, all round and facing into it
pub hole_drew : {round inward : Vector} {c d : Canvas} (s : List ℕ) (n at : ℕ) (lid : Vector) → round ≡ about (corners_at s n at) lid → inward ≡ negate round
    → Draws (walls (corners_at s n at) inward n) c d → Draws (hole_walls lid (corners_at s n at)) c d
unfolding hole_walls
hole_drew {c = c} {d} s n at lid r i =
    subst (λ (fs : List Face). Draws fs c d) (ap₂ (walls (corners_at s n at)) (i ∙ ap negate r) (sym (corners_length s n at)))

-- the corners of holes by their counts
abbrev pub corners_in : List ℕ → ℕ
corners_in counts = sum_of (λ n. n) counts

-- holes behind others
holes_append : (s : List ℕ) (ns ms : List ℕ) (at : ℕ) → holes_at s (ns ++ ms) at ≡ holes_at s ns at ++ holes_at s ms (at + 24 * corners_in ns)
unfolding holes_at sum_of
holes_append s [] ms at = let e : at ≡ at + 24 * 0 = omega arith in ap (holes_at s ms) e
holes_append s (n ∷ ns) ms at =
    let e : at + 24 * n + 24 * corners_in ns ≡ at + 24 * (n + corners_in ns) = omega arith in
    ap (λ (r : List (List Corner)). corners_at s n at ∷ r) (holes_append s ns ms (at + 24 * n) ∙ ap (λ (p : ℕ). holes_at s ns (at + 24 * n) ++ holes_at s ms p) e)

module _ (s : List ℕ) (counts at : ℕ) (lid : Vector) where
  abbrev pub first_holes : ℕ → List (List Corner)
  first_holes k = holes_at s (counts_at s k counts) at

  -- one count more
  pub counts_next : (k : ℕ) → corners_in (counts_at s (k + 1) counts) ≡ corners_in (counts_at s k counts) + u16_at s (counts + 2 * k)
  unfolding counts_at sum_of
  counts_next k =
      let f : ℕ → ℕ = λ j. u16_at s (counts + 2 * j) in
      ap corners_in (list_more f k) ∙ sum_append (λ n. n) (list f k 0) (f k ∷ []) ∙ ap (λ (m : ℕ). corners_in (list f k 0) + m) (add-zero (f k))

  pub counts_most : (n k : ℕ) → k < n → corners_in (counts_at s (k + 1) counts) ≤ corners_in (counts_at s n counts)
  unfolding counts_at
  counts_most n k h =
      let f : ℕ → ℕ = λ j. u16_at s (counts + 2 * j) in
      let e : n ≡ k + 1 + (n - (k + 1)) = omega arith in
      omega (arith, ap (λ (m : ℕ). corners_in (list f m 0)) e, ap corners_in (list_append f (k + 1) (n - (k + 1)) 0), sum_append (λ n. n) (list f (k + 1) 0) (list f (n - (k + 1)) (0 + (k + 1))))

  -- one hole more drawn behind the first k
  pub holes_next : (k n place : ℕ) {a b c : Canvas} → n ≡ u16_at s (counts + 2 * k) → place ≡ at + 24 * corners_in (counts_at s k counts) → Draws (join (hole_walls lid) (first_holes k)) a b
      → Draws (hole_walls lid (corners_at s n place)) b c → Draws (join (hole_walls lid) (first_holes (k + 1))) a c
  unfolding counts_at join holes_at
  holes_next k n place {a} {c = c} e p drawn hole =
      let f : ℕ → ℕ = λ j. u16_at s (counts + 2 * j) in
      subst (λ (fs : List Face). Draws fs a c)
      (ap₂ (λ (m o : ℕ). join (hole_walls lid) (holes_at s (list f k 0) at) ++ hole_walls lid (corners_at s m o)) e p
      ∙ ap (λ (fs : List Face). join (hole_walls lid) (holes_at s (list f k 0) at) ++ fs) (sym (append-nil (hole_walls lid (corners_at s (f k) (at + 24 * corners_in (list f k 0))))))
      ∙ sym (join_append (hole_walls lid) (holes_at s (list f k 0) at) (holes_at s (f k ∷ []) (at + 24 * corners_in (list f k 0))))
      ∙ ap (join (hole_walls lid)) (sym (holes_append s (list f k 0) (f k ∷ []) at) ∙ ap (λ (l : List ℕ). holes_at s l at) (sym (list_more f k))))
      (draws_then drawn hole)

  -- the walls of r corners more can be counted behind those of the first k holes
  pub holes_countable : (k m r : ℕ) {a b : Canvas} → CountableOn a (4 * m) (2 * m) → Draws (join (hole_walls lid) (first_holes k)) a b → corners_in (counts_at s k counts) + r ≤ m → CountableOn b (4 * r) (2 * r)
  holes_countable k m r countable p h =
      let e = sum_lengths (first_holes k) ∙ ap corners_in (holes_size s (counts_at s k counts) at) in
      draws_countable countable p (omega (arith, holes_points lid (first_holes k), sum_lengths (first_holes k), e)) (omega (arith, holes_count lid (first_holes k), e))
