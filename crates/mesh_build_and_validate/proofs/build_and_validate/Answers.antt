use Rattle.std.proofs.Common.{length-take-le, sym}
use Rattle.mesh_answer.proofs.Calls.{vertices_fit, indices_fit, both_are, demand3_built}
use Rattle.mesh_build_and_validate.proofs.build_and_validate.Goals as goal

pub slice_bounds-validate-end : goal.slice_bounds-validate-end
slice_bounds-validate-end c = vertices_fit _ _ c.build-answer.ensures c.mesh_lengths-m.ensures.0

pub slice_bounds-validate-end-2 : goal.slice_bounds-validate-end-2
slice_bounds-validate-end-2 c = sym (length-take-le _ _ (vertices_fit _ _ c.build-answer.ensures c.mesh_lengths-m.ensures.0))

pub slice_bounds-validate-end-3 : goal.slice_bounds-validate-end-3
slice_bounds-validate-end-3 c = indices_fit _ _ c.build-answer.ensures c.mesh_lengths-m.ensures.1

pub slice_bounds-validate-end-4 : goal.slice_bounds-validate-end-4
slice_bounds-validate-end-4 c = sym (length-take-le _ _ (indices_fit _ _ c.build-answer.ensures c.mesh_lengths-m.ensures.1))

pub returns : goal.returns
returns c = let b = c.build-answer.ensures in
    let m = c.mesh_lengths-m.ensures in
    record { same = both_are _ _ b _ _ _ m.0 m.1 c.validate-validation.ensures; demand3 = demand3_built _ _ b _ _ _ m.0 m.1 c.validate-validation.ensures }
