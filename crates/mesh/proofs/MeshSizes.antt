-- How many indices and normals a mesh has, beside its kept triangles and its vertices, and how many numbers each buffer gets. Assumes nothing.
use mathlib.Core.Path.{◌≡◌, refl, sym, ◌∙◌}
use mathlib.Core.List.{List, [], ◌∷◌, map}
use Prim.Native.Nat.{ℕ, ◌+◌, ◌*◌}
use native.Mathlib.Omega.{arith}
use lib.ListN.{length, length-append, length-map}
use lib.Ieee.{Float}
use Rattle.lists.specs.Loops.{join, sum_of}
use Rattle.lists.proofs.Lists.{join_size}
use Rattle.coords.specs.Buffers.{vertex_numbers, normal_record, normal_numbers}
use Rattle.coords.proofs.Buffers.{vertices_size}
use Rattle.millimetre.specs.Millimetres.{millimetres}
use Rattle.object.specs.Object.{Object}
use Rattle.face.proofs.Draws.{normals_size}
use Rattle.lid.specs.Log.{entry_record, log_numbers}
use Rattle.shape.specs.Shapes.{faces_of}
use Rattle.mesh.specs.Mesh.{kept_by, account_of, piece_of, add_piece, mesh_from, mesh_of, accounts_of, logs_of, span_record, span_numbers, account_record, account_numbers}
use Rattle.mesh.specs.PerBuffer.{numbers_for}
use Rattle.mesh.specs.Operations.{output, counts_of}
use Rattle.mesh.proofs.Demand3.Spans.{piece_size}

module _ (limit : Float) where
  pub piece_normals : (v : ℕ) (o : Object) → length (piece_of limit v o).normals ≡ length (piece_of limit v o).vertices
  unfolding piece_of
  piece_normals v o = normals_size limit v (faces_of o.shape)

  pub mesh_indices : (os : List Object) (v i : ℕ) → length (mesh_from limit v i os).indices ≡ 3 * sum_of (λ (o : Object). kept_by limit o.shape) os
  unfolding mesh_from add_piece sum_of
  mesh_indices [] v i = refl
  mesh_indices (o ∷ os) v i =
      let p = piece_of limit v o in
      let m = mesh_from limit (v + length p.vertices) (i + length p.indices) os in
      omega (arith, length-append p.indices m.indices, piece_size limit v o, mesh_indices os (v + length p.vertices) (i + length p.indices))

  pub mesh_normals : (os : List Object) (v i : ℕ) → length (mesh_from limit v i os).normals ≡ length (mesh_from limit v i os).vertices
  unfolding mesh_from add_piece
  mesh_normals [] v i = refl
  mesh_normals (o ∷ os) v i =
      let p = piece_of limit v o in
      let m = mesh_from limit (v + length p.vertices) (i + length p.indices) os in
      omega (arith, length-append p.normals m.normals, length-append p.vertices m.vertices, piece_normals v o, mesh_normals os (v + length p.vertices) (i + length p.indices))

  pub output_counts : (os : List Object)
      → let m = mesh_from limit 0 0 os in
      numbers_for (length m.vertices) (sum_of (λ (o : Object). kept_by limit o.shape) os) (length m.spans) (length os) (length (logs_of os)) ≡ counts_of (output limit os)
  unfolding output counts_of mesh_of accounts_of normal_numbers span_numbers account_numbers log_numbers
  output_counts os =
      let m = mesh_from limit 0 0 os in
      let vertices_are : 3 * length m.vertices ≡ length (vertex_numbers m.vertices) = omega (arith, vertices_size m.vertices) in
      let normals-are : 3 * length m.vertices ≡ length (join normal_record m.normals) = omega (arith, join_size normal_record 3 (λ a. refl) m.normals, mesh_normals os 0 0) in
      let indices_are : 3 * sum_of (λ (o : Object). kept_by limit o.shape) os ≡ length m.indices = omega (arith, mesh_indices os 0 0) in
      let spans-are : 5 * length m.spans ≡ length (join span_record m.spans) = omega (arith, join_size span_record 5 (λ a. refl) m.spans) in
      let account-is : 4 * length os ≡ length (join account_record (map (account_of limit) os)) = omega (arith, join_size account_record 4 (λ a. refl) (map (account_of limit) os), length-map os (account_of limit)) in
      let log_is : 4 * length (logs_of os) ≡ length (join entry_record (logs_of os)) = omega (arith, join_size entry_record 4 (λ a. refl) (logs_of os)) in
      let millimetres-are : 3 * length m.vertices ≡ length (map millimetres (vertex_numbers m.vertices)) = vertices_are ∙ sym (length-map (vertex_numbers m.vertices) millimetres) in
      λ i. record { vertices = vertices_are i; normals = normals-are i; indices = indices_are i; spans = spans-are i; account = account-is i; log = log_is i; millimetres = millimetres-are i }
