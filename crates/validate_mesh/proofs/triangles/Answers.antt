-- The verdict from triangle t on is the verdict from 0 on.
use Rattle.std.proofs.Common.{refl, rules, sym, ◌∙◌}
use Rattle.coords.specs.Buffers.{vertices_in}
use Rattle.validate.specs.Contract.Validate.{or_later}
use Rattle.validate_mesh.proofs.Steps.{turn, all_done}
use Rattle.validate_mesh.proofs.triangles.Goals as goal

pub loop-t-init : goal.loop-t-init
loop-t-init c = search rules

pub loop-t-preserved : goal.loop-t-preserved
unfolding or_later
loop-t-preserved c =
    let h = c.in-Some.ensures.steps in
    let i = c.loop-t.invariant in
    (h.0.0 ∙ i.0, rw c.in_ok-triangle.was at (turn c.args.limit (vertices_in c.args.vertices.now) _ _ _ i.0 h.0.1.0 h.0.1.1 h.0.1.2 refl c.index_or-b.ensures c.index_or-c.ensures c.triangle.ensures h.1 h.2 i.1))

-- a triangle that is not in order is the verdict, whatever comes later
pub returns-in_err-triangle : goal.returns-in_err-triangle
unfolding or_later
returns-in_err-triangle c =
    let h = c.in-Some.ensures.steps in
    let i = c.loop-t.invariant in
    let e = rw c.in_err-triangle.was at (turn c.args.limit (vertices_in c.args.vertices.now) _ _ _ i.0 h.0.1.0 h.0.1.1 h.0.1.2 refl c.index_or-b.ensures c.index_or-c.ensures c.triangle.ensures h.1 h.2 i.1) in
    search rules

pub returns : goal.returns
returns c = sym (all_done c.args.limit (vertices_in c.args.vertices.now) _ _ c.in-None.ensures.steps.0.1.0) ∙ c.loop-t.invariant.1
