-- Demand 3's spans, over a list of objects in any order and number, at every limit. Assumes nothing.
use mathlib.Core.Path.{◌≡◌, refl, sym, ◌∙◌, ap, ap₂, subst, subst₂}
use mathlib.Core.Bool.{Bool, true, false, not, cond}
use mathlib.Core.List.{List, [], ◌∷◌, ◌++◌, map}
use Prim.Native.Nat.{ℕ, zero, suc, ◌+◌, ◌-◌, ◌*◌, ◌<◌}
use native.Mathlib.Nat.{zero-add}
use native.Mathlib.Omega.{arith}
use lib.Dec.{T, eqb, eqb→eq, eqb_refl, T_not}
use lib.ListN.{length, get_or, take, drop, length-append}
use lib.Seq.{take-append_seam, drop-append_seam, drop-drop}
use lib.Ieee.{Float}
use Rattle.lists.specs.Each.{Each}
use Rattle.coords.specs.declared.Point.{Point}
use Rattle.coords.specs.Coords.{origin}
use Rattle.object.specs.Object.{Object}
use Rattle.face.specs.Faces.{Piece, write_faces}
use Rattle.shape.specs.Shapes.{faces_of}
use Rattle.mesh.specs.Demand3.{kept_corners, indices_in, SpanHolds, SpansFollow, EndToEnd}
use Rattle.mesh.specs.Demand3.SpansFollow.{no_more, without, with_span}
use Rattle.mesh.specs.Mesh.{Span, Mesh, kept_by, piece_of, span_of, add_piece, mesh_from, mesh_of}
use Rattle.face.proofs.Written.{Stands, stands_left, stands_right, Named, write_size, write_none, write_places, write_named}
use Rattle.shape.proofs.Corners.{faces_low}

-- ---- the objects

-- a test for zero
zero_or_more : (n : ℕ) → (T (eqb n 0) → n ≡ 0) × (T (not (eqb n 0)) → 0 < n)
zero_or_more zero = (λ h. refl, λ h. absurd (T_not (eqb 0 0) h (eqb_refl 0)))
zero_or_more (suc n) = (eqb→eq (suc n) 0, λ h. omega arith)

module _ (limit : Float) where
  -- three indices for each kept triangle, and neither vertices nor indices where none is kept
  pub piece_size : (v : ℕ) (o : Object) → length (piece_of limit v o).indices ≡ 3 * kept_by limit o.shape
  unfolding piece_of kept_by
  piece_size v o = write_size limit v (faces_of o.shape)

  piece_none : (v : ℕ) (o : Object) → length (piece_of limit v o).indices ≡ 0 → length (piece_of limit v o).vertices ≡ 0
  unfolding piece_of kept_by
  piece_none v o h = write_none limit v (faces_of o.shape) (omega (arith, write_size limit v (faces_of o.shape)))

  abbrev span_at : ℕ → ℕ → Object → Span
  span_at v i o =
      let p = piece_of limit v o in
      record { id = o.id; vertex_start = v; vertex_end = v + length p.vertices; index_start = i; index_end = i + length p.indices }

  -- the object's own span, where its vertices stand in vs from v on and its indices in is from i on
  span_holds : (vs : List Point) (is : List ℕ) (v i : ℕ) (o : Object) (more : List ℕ)
      → Stands vs v (piece_of limit v o).vertices → drop i is ≡ (piece_of limit v o).indices ++ more → SpanHolds limit vs is o (span_at v i o)
  unfolding indices_in kept_corners piece_of
  span_holds vs is v i o more h e =
      let fs = faces_of o.shape in
      let p = write_faces limit v fs in
      let its : take (i + length p.indices - i) (drop i is) ≡ p.indices =
      ap₂ take (let n = length p.indices in plus_minus i n) e ∙ take-append_seam p.indices more in
      record {
        id = refl;
        whole = ap (λ (n : ℕ). i + n) (piece_size v o);
        triangles = ap (map (λ j. get_or vs j origin)) its ∙ write_places limit vs v fs (faces_low o.shape) h;
        named = subst (Each (Named v (length p.vertices))) (sym its) (write_named limit v fs (faces_low o.shape));
      }
    where
      plus_minus : (a b : ℕ) → a + b - a ≡ b
      plus_minus a b = omega arith

  module _ (vs : List Point) (is : List ℕ) where
    pub spans_follow : (os : List Object) (v i : ℕ) → Stands vs v (mesh_from limit v i os).vertices → drop i is ≡ (mesh_from limit v i os).indices
        → SpansFollow limit vs is os (mesh_from limit v i os).spans
    unfolding mesh_from add_piece span_of
    spans_follow [] v i h e = no_more
    spans_follow (o ∷ os) v i h e =
        go (eqb n 0) (zero_or_more n)
        (spans_follow os (v + length p.vertices) (i + n) (stands_right vs v p.vertices m.vertices h)
        (sym (drop-drop n i is) ∙ ap (drop n) e ∙ drop-append_seam p.indices m.indices))
      where
        p : Piece
        p = piece_of limit v o

        n : ℕ
        n = length p.indices

        m : Mesh
        m = mesh_from limit (v + length p.vertices) (i + n) os

        go : (b : Bool) → (T b → n ≡ 0) × (T (not b) → 0 < n) → SpansFollow limit vs is os m.spans
            → SpansFollow limit vs is (o ∷ os) (cond b [] (span_at v i o ∷ []) ++ m.spans)
        go true t ih = let none : kept_by limit o.shape ≡ 0 = omega (arith, t.0 tt, piece_size v o) in without none ih
        go false t ih =
            let any : 0 < kept_by limit o.shape = omega (arith, t.1 tt, piece_size v o) in
            with_span any (span_holds vs is v i o m.indices (stands_left vs v p.vertices m.vertices h) e) ih

  pub end_to_end : (vertex_end index_end : ℕ) (os : List Object) (v i : ℕ)
      → v + length (mesh_from limit v i os).vertices ≡ vertex_end → i + length (mesh_from limit v i os).indices ≡ index_end
      → EndToEnd vertex_end index_end v i (mesh_from limit v i os).spans
  unfolding mesh_from add_piece span_of
  end_to_end vertex_end index_end [] v i a b = (omega arith, omega arith)
  end_to_end vertex_end index_end (o ∷ os) v i a b =
      go (eqb n 0) (zero_or_more n)
      (end_to_end vertex_end index_end os (v + length p.vertices) (i + n) (omega (arith, length-append p.vertices m.vertices)) (omega (arith, length-append p.indices m.indices)))
    where
      p : Piece
      p = piece_of limit v o

      n : ℕ
      n = length p.indices

      m : Mesh
      m = mesh_from limit (v + length p.vertices) (i + n) os

      go : (b : Bool) → (T b → n ≡ 0) × (T (not b) → 0 < n) → EndToEnd vertex_end index_end (v + length p.vertices) (i + n) m.spans
          → EndToEnd vertex_end index_end v i (cond b [] (span_at v i o ∷ []) ++ m.spans)
      go true t ih =
          let z = t.0 tt in
          let y = piece_none v o z in
          subst₂ (λ (v i : ℕ). EndToEnd vertex_end index_end v i m.spans) (omega arith) (omega arith) ih
      go false t ih = (refl, refl, ih)

  -- over the whole mesh
  pub mesh_spans : (os : List Object) → SpansFollow limit (mesh_of limit os).vertices (mesh_of limit os).indices os (mesh_of limit os).spans
  unfolding mesh_of
  mesh_spans os =
      let m = mesh_from limit 0 0 os in
      spans_follow m.vertices m.indices os 0 0 (λ i b. ap (λ (n : ℕ). get_or m.vertices n origin) (zero-add i)) refl

  pub mesh_ends : (os : List Object) → EndToEnd (length (mesh_of limit os).vertices) (length (mesh_of limit os).indices) 0 0 (mesh_of limit os).spans
  unfolding mesh_of
  mesh_ends os =
      let m = mesh_from limit 0 0 os in
      end_to_end (length m.vertices) (length m.indices) os 0 0 (zero-add (length m.vertices)) (zero-add (length m.indices))
