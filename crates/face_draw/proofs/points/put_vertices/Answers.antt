-- `face_draw::points::put_vertices` meets its contract: with the points from k on stored too, the buffers hold all. Assumes nothing.
use Rattle.std.proofs.Common.{List, [], arith, length, refl, ℕ, ◌*◌, ◌+◌, ◌/◌, ◌∙◌, ◌∷◌, ◌≡◌}
use lib.Seq.{sets}
use lib.Ieee.{Float}
use Rattle.buffer.proofs.Vertices.{length_vertices}
use Rattle.coords.specs.declared.Point.{Point}
use Rattle.coords.specs.Buffers.{vertex_record, vertex_numbers, normal_record, normal_numbers, vertex_at, vertices_in}
use Rattle.lists.proofs.Lists.{list_constant}
use Rattle.lists.proofs.Stores.{store_start, store_next, store_end}
use Rattle.face_draw.proofs.points.put_vertices.Goals as goal

point_stored : (s : List Float) (i : ℕ) {s' : List Float} {p q : Point} → p ≡ q → s' ≡ sets s i (p.x ∷ p.y ∷ p.z ∷ []) → s' ≡ sets s i (vertex_record q)
point_stored s i e h = rw (← e) h

pub loop-k-init : goal.loop-k-init
unfolding vertex_numbers normal_numbers vertices_in
loop-k-init c = let a = c.args in
    let n = length a.points.now / 3 in (
      store_start vertex_record 3 (λ p. refl) (vertex_at a.points.now) n a.at a.vs.now,
      store_start normal_record 3 (λ v. refl) (λ i. a.normal) n a.at a.ns.now ∙ rw (list_constant a.normal n 0, length_vertices a.points.now),
    )

pub loop-k-preserved : goal.loop-k-preserved
loop-k-preserved c = let a = c.args in
    let l = c.loop-k in
    let n = length a.points.now / 3 in (
      store_next vertex_record 3 (λ p. refl) (vertex_at a.points.now) n a.at l.k l.vs _ _ (omega arith) (point_stored l.vs (3 * (a.at + l.k)) c.vertex_at-p.ensures c.put_three.ensures) l.invariant.0,
      store_next normal_record 3 (λ v. refl) (λ i. a.normal) n a.at l.k l.ns _ _ (omega arith) c.put_three-in-loop-k.ensures l.invariant.1,
    )

pub returns : goal.returns
returns c = let a = c.args in
    let l = c.loop-k in
    let n = length a.points.now / 3 in (
      store_end vertex_record 3 (λ p. refl) (vertex_at a.points.now) n a.at l.k l.vs _ c.loop-k-test.false l.invariant.0,
      store_end normal_record 3 (λ v. refl) (λ i. a.normal) n a.at l.k l.ns _ c.loop-k-test.false l.invariant.1,
    )
