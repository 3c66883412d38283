-- Drawing one after the other: faces drawn behind faces are all of them drawn; how many vertices and triangles more can be counted after it; that it keeps the buffers' lengths. Assumes nothing.
use mathlib.Core.Path.{◌≡◌, refl, sym, ap, ap₂, ◌∙◌}
use Prim.Native.Nat.{ℕ, ◌+◌, ◌*◌, ◌≤◌, zero-le}
use native.Mathlib.Nat.{add_assoc, add-zero, le_refl}
use native.Mathlib.Omega.{arith}
use mathlib.Core.List.{List, [], ◌∷◌, ◌++◌, append_assoc}
use lib.ListN.{length, length-append, length-replicate}
use lib.Seq.{sets, length-sets}
use lib.Ieee.{Float}
use Rattle.lists.specs.Loops.{join, sum_of}
use Rattle.lists.proofs.Lists.{sum_append}
use Rattle.lists.proofs.Stores.{sets_append, records_behind}
use Rattle.coords.specs.declared.Point.{Point}
use Rattle.coords_vector.specs.declared.Vector.{Vector}
use Rattle.coords.specs.Buffers.{vertex_record, vertex_numbers, normal_record, normal_numbers}
use Rattle.face.specs.declared.Tally.{Tally}
use Rattle.face.specs.Faces.{Triangle, Face, Piece, thin_in, kept_of, face_normal, nothing, behind, write_kept, write_face, write_faces}
use Rattle.face.specs.Contract.Drawing.{tally, Drawing, drawing, counted, drawn, Drew, Countable}
use Rattle.face.proofs.Counts.{count, faces_account}
use Rattle.face.proofs.Written.{write_size}

-- fewer can be counted where more can
pub countable_less : {before : ℕ} {t : Tally} {v k w j : ℕ} → Countable before t w j → v ≤ w → k ≤ j → Countable before t v k
countable_less r p q = record { vertices = omega (arith, r.vertices); kept = omega (arith, r.kept); thin = omega (arith, r.thin) }

pub same_drawing : {t t' : Tally} {vs vs' ns ns' : List Float} {is is' : List ℕ} → t ≡ t' → vs ≡ vs' → ns ≡ ns' → is ≡ is' → drawing t vs ns is ≡ drawing t' vs' ns' is'
same_drawing a b c d = cc

pub same_tally : {a a' b b' c c' : ℕ} → a ≡ a' → b ≡ b' → c ≡ c' → tally a b c ≡ tally a' b' c'
same_tally p q r = cc

same_piece : {vs vs' : List Point} {ns ns' : List Vector} {is is' : List ℕ} → vs ≡ vs' → ns ≡ ns' → is ≡ is'
    → ◌≡◌ {A = Piece} (record { vertices = vs; normals = ns; indices = is }) (record { vertices = vs'; normals = ns'; indices = is' })
same_piece a b c = cc

-- a piece put behind what stands in the buffers, with k triangles kept and h thin
unfoldable pub put : Piece → ℕ → ℕ → Drawing → Drawing
put p k h d =
    let t = d.tally in
    drawing (tally (t.vertices + length p.vertices) (t.kept + k) (t.thin + h)) (sets d.vertices (3 * t.vertices) (vertex_numbers p.vertices))
    (sets d.normals (3 * t.vertices) (normal_numbers p.normals)) (sets d.indices (3 * t.kept) p.indices)

put_more : (p q : Piece) (k h k' h' : ℕ) (d : Drawing) → length p.normals ≡ length p.vertices → length p.indices ≡ 3 * k
    → put q k' h' (put p k h d) ≡ put (behind p q) (k + k') (h + h') d
unfolding put behind vertex_numbers normal_numbers
put_more p q k h k' h' d e g =
    let t = d.tally in
    same_drawing
    (same_tally (let l = length-append p.vertices q.vertices in omega arith) (add_assoc t.kept k k') (add_assoc t.thin h h'))
    (records_behind vertex_record 3 (λ a. refl) d.vertices t.vertices p.vertices q.vertices)
    (rw (← e) (records_behind normal_record 3 (λ a. refl) d.normals t.vertices p.normals q.normals))
    (ap (λ (i : ℕ). sets (sets d.indices (3 * t.kept) p.indices) i q.indices) (omega arith) ∙ sets_append d.indices (3 * t.kept) p.indices q.indices)

behind_assoc : (p q r : Piece) → behind p (behind q r) ≡ behind (behind p q) r
unfolding behind
behind_assoc p q r = same_piece (sym (append_assoc p.vertices q.vertices r.vertices)) (sym (append_assoc p.normals q.normals r.normals)) (sym (append_assoc p.indices q.indices r.indices))

module _ (limit : Float) where
  -- ---- what faces write

  kept_normals : (first : ℕ) (f : Face) (ts : List Triangle) → length (write_kept limit first f ts).normals ≡ length (write_kept limit first f ts).vertices
  unfolding write_kept nothing
  kept_normals first f [] = refl
  kept_normals first f (t ∷ ts) = length-replicate (length f.points) (face_normal limit f)

  pub normals_size : (first : ℕ) (fs : List Face) → length (write_faces limit first fs).normals ≡ length (write_faces limit first fs).vertices
  unfolding write_faces write_face behind nothing
  normals_size first [] = refl
  normals_size first (f ∷ fs) =
      let p = write_kept limit first f (kept_of limit f) in
      let q = write_faces limit (first + length p.vertices) fs in
      length-append p.normals q.normals ∙ ap₂ ◌+◌ (kept_normals first f (kept_of limit f)) (normals_size (first + length p.vertices) fs) ∙ sym (length-append p.vertices q.vertices)

  kept_most : (first : ℕ) (f : Face) (ts : List Triangle) → length (write_kept limit first f ts).vertices ≤ length f.points
  unfolding write_kept nothing
  kept_most first f [] = zero-le
  kept_most first f (t ∷ ts) = le_refl (length f.points)

  -- no more vertices than the faces have points
  pub vertices_most : (first : ℕ) (fs : List Face) → length (write_faces limit first fs).vertices ≤ sum_of (λ f. length f.points) fs
  unfolding write_faces write_face behind nothing sum_of
  vertices_most first [] = zero-le
  vertices_most first (f ∷ fs) =
      let p = write_kept limit first f (kept_of limit f) in
      let next = first + length p.vertices in
      omega (arith, length-append p.vertices (write_faces limit next fs).vertices, kept_most first f (kept_of limit f), vertices_most next fs)

  pub write_append : (first : ℕ) (fs gs : List Face)
      → write_faces limit first (fs ++ gs) ≡ behind (write_faces limit first fs) (write_faces limit (first + length (write_faces limit first fs).vertices) gs)
  unfolding write_faces behind nothing
  write_append first [] gs = rw add-zero
  write_append first (f ∷ fs) gs =
      let p = write_face limit first f in
      let next = first + length p.vertices in
      let q = write_faces limit next fs in
      ap (behind p) (write_append next fs gs)
      ∙ behind_assoc p q (write_faces limit (next + length q.vertices) gs)
      ∙ ap (λ (k : ℕ). behind (behind p q) (write_faces limit k gs)) (add_assoc first (length p.vertices) (length q.vertices) ∙ ap (λ (k : ℕ). first + k) (sym (length-append p.vertices q.vertices)))

  -- ---- one after the other

  drawn_then : (fs gs : List Face) (before : ℕ) (d : Drawing) → drawn limit gs before (drawn limit fs before d) ≡ drawn limit (fs ++ gs) before d
  unfolding drawn counted put
  drawn_then fs gs before d =
      let t = d.tally in
      let first = before + t.vertices in
      let p = write_faces limit first fs in
      let kept = sum_of (λ f. length (kept_of limit f)) in
      let thin = sum_of (thin_in limit) in
      ap (λ (i : ℕ). put (write_faces limit i gs) (kept gs) (thin gs) (put p (kept fs) (thin fs) d)) (sym (add_assoc before t.vertices (length p.vertices)))
      ∙ put_more p (write_faces limit (first + length p.vertices) gs) (kept fs) (thin fs) (kept gs) (thin gs) d (normals_size first fs) (write_size limit first fs)
      ∙ rw (← write_append first fs gs, ← sum_append (λ f. length (kept_of limit f)) fs gs, ← sum_append (thin_in limit) fs gs)

  module _ {fs : List Face} {before : ℕ} {d d' : Drawing} where
    -- faces drawn behind others
    pub then : {gs : List Face} {d'' : Drawing} → Drew limit fs before d d' → Drew limit gs before d' d'' → Drew limit (fs ++ gs) before d d''
    then {gs} p q = record { after = q.after ∙ ap (drawn limit gs before) p.after ∙ drawn_then fs gs before d }

    -- what has been counted
    pub drew_tally : Drew limit fs before d d' → d'.tally ≡ counted limit (before + d.tally.vertices) fs d.tally
    unfolding drawn
    drew_tally p = ap (λ (x : Drawing). x.tally) p.after

    -- v vertices and k triangles more can still be counted
    pub drew_countable : {w j v k : ℕ} → Countable before d.tally w j → Drew limit fs before d d' → sum_of (λ f. length f.points) fs + v ≤ w → sum_of count fs + k ≤ j → Countable before d'.tally v k
    unfolding counted
    drew_countable r p h g =
        let e = drew_tally p in
        let x = ap (λ (t : Tally). t.vertices) e in
        let y = ap (λ (t : Tally). t.kept) e in
        let z = ap (λ (t : Tally). t.thin) e in
        let a = vertices_most (before + d.tally.vertices) fs in
        let b = faces_account limit fs in
        record { vertices = omega (arith, x, a, r.vertices); kept = omega (arith, y, b, r.kept); thin = omega (arith, z, b, r.thin) }

    -- the buffers keep their lengths
    pub drew_vertices : Drew limit fs before d d' → length d'.vertices ≡ length d.vertices
    unfolding drawn
    drew_vertices p = ap (λ (x : Drawing). length x.vertices) p.after ∙ (simp length-sets)

    pub drew_normals : Drew limit fs before d d' → length d'.normals ≡ length d.normals
    unfolding drawn
    drew_normals p = ap (λ (x : Drawing). length x.normals) p.after ∙ (simp length-sets)

    pub drew_indices : Drew limit fs before d d' → length d'.indices ≡ length d.indices
    unfolding drawn
    drew_indices p = ap (λ (x : Drawing). length x.indices) p.after ∙ (simp length-sets)

  -- nothing drawn
  pub drew_none : (before : ℕ) (d : Drawing) → Drew limit [] before d d
  unfolding drawn counted write_faces nothing sum_of vertex_numbers normal_numbers join
  drew_none before d = record { after = same_drawing (same_tally (sym (add-zero _)) (sym (add-zero _)) (sym (add-zero _))) refl refl refl }
