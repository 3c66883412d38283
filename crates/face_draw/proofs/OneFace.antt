-- One face drawn: what its triangles came to, and its points stored, are what crates/face/specs/Faces.antt writes of it. Assumes nothing.
use mathlib.Core.Path.{◌≡◌, refl, sym, ap, ap₂, subst, ◌∙◌}
use Prim.Native.Nat.{ℕ, ◌+◌, ◌*◌, ◌/◌}
use native.Mathlib.Nat.{add-zero, zero-add}
use native.Mathlib.Omega.{arith}
use mathlib.Core.Bool.{Bool, true, false, cond}
use mathlib.Core.List.{List, [], ◌∷◌, append-nil}
use borrow.Author.Tests.{eqb-true, eqb-false}
use lib.Dec.{eqb}
use lib.ListN.{length, replicate}
use lib.Seq.{sets}
use lib.Ieee.{Float}
use Rattle.lists.specs.Loops.{join, sum_of}
use Rattle.lists.proofs.Lists.{length_list}
use Rattle.lists.proofs.Buffers.{threes_back}
use Rattle.lists.proofs.Stores.{sets_none}
use Rattle.coords_vector.specs.declared.Vector.{Vector}
use Rattle.coords_vector.specs.Vectors.{unit_z, normalize_or}
use Rattle.coords.specs.declared.Point.{Point}
use Rattle.coords.specs.Buffers.{vertex_numbers, normal_numbers}
use Rattle.face.specs.declared.Tally.{Tally}
use Rattle.face.specs.Faces.{Triangle, triangle, Face, thin_in, kept_of, face_normal, nothing, behind, numbered, write_kept, write_face, write_faces}
use Rattle.face_judge.specs.declared.Sum.{Sum}
use Rattle.face_triangle.specs.Contract.Triangles.{triangle_record, triangle_at, triangles_in}
use Rattle.face_judge.specs.Contract.Offered.{Offered, offered, no_sum, offer_all}
use Rattle.face.specs.Contract.Drawing.{tally, Drawing, drawing, counted, drawn, Drew}
use Rattle.face_draw.specs.Contract.Sums.{counted_with, vertices_with, normals_with}
use Rattle.face.proofs.Counts.{face_account}
use Rattle.face_draw.proofs.Offers.{added, offered_all}
use Rattle.face.proofs.Draws.{same_drawing, same_tally, put}

pub length_triangles : (xs : List ℕ) → length (triangles_in xs) ≡ length xs / 3
unfolding triangles_in
length_triangles xs = length_list (triangle_at xs) (length xs / 3) 0

-- triangles written as numbers and read back are the same
pub triangles_back : (ts : List Triangle) → triangles_in (join triangle_record ts) ≡ ts
unfolding triangles_in
triangles_back ts = threes_back triangle (λ (t : Triangle). t.a) (λ (t : Triangle). t.b) (λ (t : Triangle). t.c) (λ t. refl) 0 ts

-- a list of one face
drawn_one : (limit : Float) (f : Face) (before : ℕ) (d : Drawing)
    → drawn limit (f ∷ []) before d ≡ put (write_face limit (before + d.tally.vertices) f) (length (kept_of limit f)) (thin_in limit f) d
unfolding drawn counted write_faces behind nothing sum_of put
drawn_one limit f before d = simp (append-nil, add-zero)

module _ (limit : Float) (first : ℕ) (f : Face) (h : ℕ) (t : Tally) (vs ns : List Float) (is : List ℕ) where
  put_none : (ks : List Triangle) → length ks ≡ 0
      → drawing (tally t.vertices t.kept (t.thin + h)) vs ns (sets is (3 * t.kept) (numbered first ks)) ≡ put (write_kept limit first f ks) (length ks) h (drawing t vs ns is)
  unfolding put write_kept nothing numbered join vertex_numbers normal_numbers
  put_none [] e = same_drawing (same_tally (sym (add-zero t.vertices)) (sym (add-zero t.kept)) refl) refl refl refl
  put_none (k ∷ ks) e = absurd (omega arith)

  put_some : (ks : List Triangle) → (length ks ≡ 0 → ⊥)
      → drawing (tally (t.vertices + length f.points) (t.kept + length ks) (t.thin + h)) (sets vs (3 * t.vertices) (vertex_numbers f.points))
      (sets ns (3 * t.vertices) (normal_numbers (replicate (length f.points) (face_normal limit f)))) (sets is (3 * t.kept) (numbered first ks))
      ≡ put (write_kept limit first f ks) (length ks) h (drawing t vs ns is)
  unfolding put write_kept
  put_some [] e = absurd (e refl)
  put_some (k ∷ ks) e = refl

module _ (limit : Float) (ps : List Point) (ts : List Triangle) (out : Vector) where
  abbrev one : ℕ → Face
  one part = record { points = ps; triangles = ts; out = out; part = part }

  all_added : (base n : ℕ) (is : List ℕ) → offer_all limit ps out base n is ts ≡ added limit ps out base n (offered no_sum is) ts
  unfolding offer_all
  all_added base n is = offered_all limit ps out base n ts (offered no_sum is)

  module _ (part base n : ℕ) (is : List ℕ) (o : Offered) (e : o ≡ offer_all limit ps out base n is ts) where
    kept_is : o.sum.kept ≡ length (kept_of limit (one part))
    unfolding added kept_of
    kept_is = ap (λ (x : Offered). x.sum.kept) (e ∙ all_added base n is) ∙ zero-add _

    thin_is : o.sum.thin ≡ thin_in limit (one part)
    unfolding added thin_in
    thin_is = ap (λ (x : Offered). x.sum.thin) (e ∙ all_added base n is) ∙ zero-add _

    normal_is : normalize_or o.sum.normal unit_z ≡ face_normal limit (one part)
    unfolding added face_normal
    normal_is = ap (λ (x : Offered). normalize_or x.sum.normal unit_z) (e ∙ all_added base n is)

    indices_are : o.indices ≡ sets is (3 * n) (numbered base (kept_of limit (one part)))
    unfolding added kept_of
    indices_are = ap (λ (x : Offered). x.indices) (e ∙ all_added base n is) ∙ rw add-zero

    -- each triangle is kept or thin
    pub all_counted : o.sum.kept + o.sum.thin ≡ length ts
    all_counted = omega (arith, kept_is, thin_is, face_account limit (one part))

  module _ (before : ℕ) (t : Tally) (vs ns : List Float) (is : List ℕ) (o : Offered) (e : o ≡ offer_all limit ps out (before + t.vertices) t.kept is ts) (part : ℕ) where
    abbrev first : ℕ
    first = before + t.vertices

    none : o.sum.kept ≡ 0
        → Drew limit (one part ∷ []) before (drawing t vs ns is) (drawing (tally t.vertices t.kept (t.thin + o.sum.thin)) vs ns o.indices)
    unfolding write_face
    none z = record {
      after =
          rw (indices_are part first t.kept is o e, thin_is part first t.kept is o e)
          (put_none limit first (one part) (thin_in limit (one part)) t vs ns is (kept_of limit (one part)) (sym (kept_is part first t.kept is o e) ∙ z) ∙ sym (drawn_one limit (one part) before (drawing t vs ns is)));
    }

    some : (o.sum.kept ≡ 0 → ⊥)
        → Drew limit (one part ∷ []) before (drawing t vs ns is)
        (drawing (tally (t.vertices + length ps) (t.kept + o.sum.kept) (t.thin + o.sum.thin)) (sets vs (3 * t.vertices) (vertex_numbers ps))
        (sets ns (3 * t.vertices) (normal_numbers (replicate (length ps) (normalize_or o.sum.normal unit_z)))) o.indices)
    unfolding write_face
    some z = record {
      after =
          rw (indices_are part first t.kept is o e, thin_is part first t.kept is o e, kept_is part first t.kept is o e, normal_is part first t.kept is o e)
          (put_some limit first (one part) (thin_in limit (one part)) t vs ns is (kept_of limit (one part)) (λ q. z (kept_is part first t.kept is o e ∙ q)) ∙ sym (drawn_one limit (one part) before (drawing t vs ns is)));
    }

    pub face_drawn : Drew limit (one part ∷ []) before (drawing t vs ns is)
        (drawing (counted_with (eqb o.sum.kept 0) (length ps) o.sum t) (vertices_with (eqb o.sum.kept 0) ps t.vertices vs)
        (normals_with (eqb o.sum.kept 0) ps o.sum.normal t.vertices ns) o.indices)
    unfolding counted_with vertices_with normals_with
    face_drawn = go (eqb o.sum.kept 0) refl
      where
        go : (b : Bool) → eqb o.sum.kept 0 ≡ b
            → Drew limit (one part ∷ []) before (drawing t vs ns is)
            (drawing (counted_with b (length ps) o.sum t) (vertices_with b ps t.vertices vs) (normals_with b ps o.sum.normal t.vertices ns) o.indices)
        go true h = none (eqb-true o.sum.kept 0 h)
        go false h = some (eqb-false o.sum.kept 0 h)

    -- where there is no room, only what is counted shows
    module _ (no-vs : length vs ≡ 0) (no-ns : length ns ≡ 0) (no-is : length is ≡ 0) where
      stays : {A : Type 0} (b : Bool) (l : List A) (i : ℕ) (w : List A) → length l ≡ 0 → cond b l (sets l i w) ≡ l
      stays true l i w h = refl
      stays false l i w h = sym (sets_none l i w h)

      pub face_counted : (s : Sum) → s.kept ≡ o.sum.kept → s.thin ≡ o.sum.thin
          → Drew limit (one part ∷ []) before (drawing t vs ns is) (drawing (counted_with (eqb s.kept 0) (length ps) s t) vs ns is)
      unfolding counted_with vertices_with normals_with
      face_counted s k h =
          subst (Drew limit (one part ∷ []) before (drawing t vs ns is))
          (same_drawing (ap₂ (λ (k h : ℕ). cond (eqb k 0) (tally t.vertices t.kept (t.thin + h)) (tally (t.vertices + length ps) (t.kept + k) (t.thin + h))) (sym k) (sym h))
          (stays (eqb o.sum.kept 0) vs (3 * t.vertices) (vertex_numbers ps) no-vs)
          (stays (eqb o.sum.kept 0) ns (3 * t.vertices) (normal_numbers (replicate (length ps) (normalize_or o.sum.normal unit_z))) no-ns)
          (indices_are part first t.kept is o e ∙ sym (sets_none is (3 * t.kept) (numbered first (kept_of limit (one part))) no-is)))
          face_drawn
