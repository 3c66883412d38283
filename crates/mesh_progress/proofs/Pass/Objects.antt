-- Objects added one behind the other are all of them added; what they count to. Assumes nothing.
use mathlib.Core.Path.{◌≡◌, refl, sym, ap, ◌∙◌, subst}
use mathlib.Core.List.{List, [], ◌∷◌, ◌++◌}
use Prim.Native.Nat.{ℕ, suc, ◌+◌, ◌*◌}
use native.Mathlib.Nat.{zero-add, add-zero, add_assoc}
use native.Mathlib.Omega.{arith}
use lib.ListN.{length, length-append}
use lib.Seq.{sets, length-sets}
use lib.Ieee.{Float}
use Rattle.lists.specs.Loops.{join, sum_of}
use Rattle.lists.proofs.Stores.{sets_append, records_behind, images_behind}
use Rattle.millimetre.specs.Millimetres.{millimetres}
use Rattle.coords.specs.Buffers.{vertex_record, vertex_numbers, normal_record, normal_numbers}
use Rattle.object.specs.Object.{Object}
use Rattle.lid.specs.Log.{entry_record, log_numbers}
use Rattle.shape.specs.Shapes.{log_of}
use Rattle.mesh_progress.specs.declared.Progress.{Progress}
use Rattle.mesh.specs.Mesh.{Mesh, kept_by, account_of, piece_of, span_of, add_piece, mesh_from, mesh_of, accounts_of, logs_of, span_record, span_numbers, account_record, account_numbers}
use Rattle.mesh.specs.PerBuffer.{Buffers}
use Rattle.mesh.specs.Contract.PerBuffer.{FitCounts}
use Rattle.mesh.specs.Operations.{written, output, counts_of}
use Rattle.mesh_progress.specs.Contract.Pass.{Pass, pass_of, begun, stored_behind, with_object, with_objects, passed_by, Fits}
use Rattle.mesh_progress.specs.Contract.Wrote.{counted_by, stored, WroteAll}
use Rattle.mesh_answer.specs.declared.Counted.{Counted}
use Rattle.mesh_answer.specs.Answers.{counts_from}
use Rattle.mesh.proofs.Demand3.Spans.{piece_size}
use Rattle.mesh.proofs.MeshSizes.{piece_normals, output_counts}
use Rattle.mesh.proofs.Rooms.{numbers_fit}

module _ (limit : Float) where
  -- ---- one after the other

  pub objects_none : (st : Pass) → with_objects limit [] st ≡ st
  unfolding with_objects mesh_from accounts_of logs_of join sum_of span_numbers account_numbers vertex_numbers normal_numbers log_numbers
  objects_none st = λ i. record {
    objects = add-zero st.objects i;
    vertices = add-zero st.vertices i;
    kept = add-zero st.kept i;
    spans = add-zero st.spans i;
    entries = add-zero st.entries i;
    buffers = st.buffers;
  }

  -- objects whose mesh is m
  abbrev with_mesh : List Object → Mesh → Pass → Pass
  with_mesh os m st =
      record {
        objects = st.objects + length os;
        vertices = st.vertices + length m.vertices;
        kept = st.kept + sum_of (λ (o : Object). kept_by limit o.shape) os;
        spans = st.spans + length m.spans;
        entries = st.entries + length (logs_of os);
        buffers = stored_behind st (written m (accounts_of limit os) (logs_of os));
      }

  joined : (o : Object) (os : List Object) (m : Mesh) (st : Pass)
      → let piece = piece_of limit st.vertices o in
      with_mesh os m (with_object limit o st) ≡ with_mesh (o ∷ os) (add_piece piece (span_of o.id st.vertices (3 * st.kept) piece) m) st
  unfolding with_object add_piece accounts_of logs_of join sum_of vertex_numbers normal_numbers span_numbers account_numbers log_numbers
  joined o os m st =
      let v = st.vertices in
      let k = st.kept in
      let piece = piece_of limit v o in
      let spans = span_of o.id v (3 * k) piece in
      let log = log_of o.shape in
      let b = st.buffers in
      let objects-are : st.objects + 1 + length os ≡ st.objects + suc (length os) = omega arith in
      let vertices_are : v + length piece.vertices + length m.vertices ≡ v + length (piece.vertices ++ m.vertices) = let l = length-append piece.vertices m.vertices in omega arith in
      let spans-are : st.spans + length spans + length m.spans ≡ st.spans + length (spans ++ m.spans) = let l = length-append spans m.spans in omega arith in
      let entries-are : st.entries + length log + length (logs_of os) ≡ st.entries + length (log ++ logs_of os) = let l = length-append log (logs_of os) in omega arith in
      let at-normals : 3 * (v + length piece.vertices) ≡ 3 * (v + length piece.normals) = let l = piece_normals limit v o in omega arith in
      let at-indices : 3 * (k + kept_by limit o.shape) ≡ 3 * k + length piece.indices = let l = piece_size limit v o in omega arith in
      let at-account : 4 * (st.objects + 1) ≡ 4 * st.objects + 4 = omega arith in
      λ i. record {
        objects = objects-are i;
        vertices = vertices_are i;
        kept = add_assoc k (kept_by limit o.shape) (sum_of (λ (o : Object). kept_by limit o.shape) os) i;
        spans = spans-are i;
        entries = entries-are i;
        buffers = record {
          vertices = records_behind vertex_record 3 (λ a. refl) b.vertices v piece.vertices m.vertices i;
          normals = (ap (λ (j : ℕ). sets (sets b.normals (3 * v) (join normal_record piece.normals)) j (join normal_record m.normals)) at-normals ∙ records_behind normal_record 3 (λ a. refl) b.normals v piece.normals m.normals) i;
          indices = (ap (λ (j : ℕ). sets (sets b.indices (3 * k) piece.indices) j m.indices) at-indices ∙ sets_append b.indices (3 * k) piece.indices m.indices) i;
          spans = records_behind span_record 5 (λ a. refl) b.spans st.spans spans m.spans i;
          account = (ap (λ (j : ℕ). sets (sets b.account (4 * st.objects) (account_record (account_of limit o))) j (account_numbers (accounts_of limit os))) at-account ∙ sets_append b.account (4 * st.objects) (account_record (account_of limit o)) (account_numbers (accounts_of limit os))) i;
          log = records_behind entry_record 4 (λ a. refl) b.log st.entries log (logs_of os) i;
          millimetres = images_behind millimetres vertex_record 3 (λ a. refl) b.millimetres v piece.vertices m.vertices i;
        };
      }

  pub objects_next : (o : Object) (os : List Object) (st : Pass) → with_objects limit os (with_object limit o st) ≡ with_objects limit (o ∷ os) st
  unfolding with_objects with_object mesh_from
  objects_next o os st =
      let v = st.vertices in
      let piece = piece_of limit v o in
      let e : 3 * (st.kept + kept_by limit o.shape) ≡ 3 * st.kept + length piece.indices = let l = piece_size limit v o in omega arith in
      ap (λ (j : ℕ). with_mesh os (mesh_from limit (v + length piece.vertices) j os) (with_object limit o st)) e
      ∙ joined o os (mesh_from limit (v + length piece.vertices) (3 * st.kept + length piece.indices) os) st

  -- objects behind others
  pub objects_append : (xs ys : List Object) (st : Pass) → with_objects limit ys (with_objects limit xs st) ≡ with_objects limit (xs ++ ys) st
  objects_append [] ys st = ap (with_objects limit ys) (objects_none st)
  objects_append (x ∷ xs) ys st =
      ap (with_objects limit ys) (sym (objects_next x xs st))
      ∙ objects_append xs ys (with_object limit x st)
      ∙ objects_next x (xs ++ ys) st

  -- fewer objects fit where more do
  pub fewer_fit : (os : List Object) (st : Pass) → Fits (with_objects limit os st) → Fits st
  unfolding with_objects
  fewer_fit os st f =
      numbers_fit _ _ _ _ _ (omega (arith, f.vertices)) (omega (arith, f.indices)) (omega (arith, f.spans)) (omega (arith, f.account)) (omega (arith, f.log))

  -- whatever the buffers hold
  pub other_buffers : (o : Object) (p : Progress) (b c : Buffers) → Fits (with_object limit o (pass_of p b)) → Fits (with_object limit o (pass_of p c))
  unfolding with_object
  other_buffers o p b c f = f

  pub others_buffers : (os : List Object) (p : Progress) (b c : Buffers) → Fits (with_objects limit os (pass_of p b)) → Fits (with_objects limit os (pass_of p c))
  unfolding with_objects
  others_buffers os p b c f = f

  -- the buffers keep their lengths
  pub objects_lengths : (os : List Object) (st : Pass) → counts_of (with_objects limit os st).buffers ≡ counts_of st.buffers
  unfolding with_objects counts_of
  objects_lengths os st = simp length-sets

  pub object_lengths : (o : Object) (st : Pass) → counts_of (with_object limit o st).buffers ≡ counts_of st.buffers
  unfolding with_object counts_of
  object_lengths o st = simp length-sets

  -- ---- what is counted in the end

  module _ (os : List Object) (p : Progress) (b b' : Buffers) (e : pass_of p b' ≡ with_objects limit os (begun b)) where
    counts_are : counted_by p ≡ counts_of (output limit os)
    unfolding with_objects
    counts_are = ap passed_by e ∙ (simp zero-add (output_counts limit os))

    pub wrote_all : {c : Counted} → counts_from c ≡ counted_by p → WroteAll limit os c b b'
    unfolding with_objects stored output mesh_of
    wrote_all h = record { counts = h ∙ counts_are; buffers = ap (λ (st : Pass). st.buffers) e }

-- what the numbers in the buffers tell of the objects' counts
pub counts_fit : (limit : Float) (os : List Object) (b : Buffers) → FitCounts (counts_of (output limit os)) → Fits (with_objects limit os (begun b))
unfolding with_objects
counts_fit limit os b f = simp zero-add (subst FitCounts (sym (output_counts limit os)) f)
