use Rattle.std.proofs.Common.{List, rules, sym, ℕ, ◌≡◌}
use lib.Ieee.{Float}
use Rattle.object.specs.Object.{Shape}
use Rattle.shape.specs.declared.Drawn.{Drawn}
use Rattle.shape.specs.Contract.Drawn.{DrewObject}
use Rattle.mesh_build.proofs.pass.draw_object.Goals as goal

-- what the canvas leaves in its loans is left in the slices that it was made of
left_in : {limit : Float} {sh : Shape} {before : ℕ} {vs ns vs' ns' xs ys : List Float} {is ls is' ls' zs : List ℕ} {d : Drawn} → xs ≡ vs' → ys ≡ ns' → zs ≡ is'
    → DrewObject limit sh before vs ns is ls d vs' ns' is' ls' → DrewObject limit sh before vs ns is ls d xs ys zs ls'
left_in a b k drew = rw (a, b, k) drew

pub returns : goal.returns
returns c =
    let same = c.draw.ensures.same in
    let v = sym same.vertices in
    let n = sym same.normals in
    let i = sym same.indices in
    left_in (search rules) (search rules) (search rules) c.draw.ensures.drew
