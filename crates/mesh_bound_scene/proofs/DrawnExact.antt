-- What drawing an object into buffers without any room tells of it. Assumes nothing.
use mathlib.Core.Path.{◌≡◌, ap, ◌∙◌}
use mathlib.Core.List.{List}
use Prim.Native.Nat.{ℕ}
use native.Mathlib.Nat.{zero-add}
use lib.Ieee.{Float}
use Rattle.object.specs.Object.{Shape}
use Rattle.face.specs.declared.Tally.{Tally}
use Rattle.face.specs.Faces.{Face}
use Rattle.face.specs.Contract.Drawing.{tally, counted}
use Rattle.face.proofs.Draws.{drew_tally}
use Rattle.shape.specs.declared.Drawn.{Drawn}
use Rattle.shape.specs.Contract.Drawn.{DrewObject}
use Rattle.shape.specs.Contract.Stages.{last_of}
use Rattle.shape.proofs.Stages.{stages_faces}
use Rattle.mesh.specs.Mesh.{kept_by}
use Rattle.mesh_bound.specs.Most.{of_shape}
use Rattle.mesh_bound.specs.Contract.Groups.{exact_of}

pub drawn_exact : {limit : Float} {sh : Shape} {vs ns vs' ns' : List Float} {is ls is' ls' : List ℕ} {d : Drawn}
    → DrewObject limit sh 0 vs ns is ls d vs' ns' is' ls' → of_shape (last_of d.after).vertices (last_of d.after).kept d.entries ≡ exact_of limit sh
unfolding exact_of counted kept_by
drawn_exact {limit} {sh} r =
    let t = drew_tally limit r.drew.drew ∙ ap (λ (fs : List Face). counted limit 0 fs (tally 0 0 0)) (stages_faces sh) in
    let v = ap (λ (x : Tally). x.vertices) t ∙ zero-add _ in
    let k = ap (λ (x : Tally). x.kept) t ∙ zero-add _ in
    λ i. of_shape (v i) (k i) (r.entries i)
