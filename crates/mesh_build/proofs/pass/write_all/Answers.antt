use Rattle.std.proofs.Common.{length-take-le, sym}
use Rattle.mesh_build.proofs.Built.{can_write, planned_inside, planned_long, planned_reach, planned_built}
use Rattle.mesh_build.proofs.pass.write_all.Goals as goal

pub write_objects-c-requires : goal.write_objects-c-requires
write_objects-c-requires c = let p = c.requires in (p.0, can_write _ _ _ _ p)

pub slice_bounds-fill-end : goal.slice_bounds-fill-end
slice_bounds-fill-end c = let a = c.args in
    planned_inside a.limit a.s.now a.n a.vertices.now a.normals.now a.indices.now a.spans.now a.account.now a.log.now a.millimetres.now c.requires c.write_objects-c.ensures

pub slice_bounds-fill-end-2 : goal.slice_bounds-fill-end-2
slice_bounds-fill-end-2 c = let a = c.args in
    sym (length-take-le _ _ (planned_inside a.limit a.s.now a.n a.vertices.now a.normals.now a.indices.now a.spans.now a.account.now a.log.now a.millimetres.now c.requires c.write_objects-c.ensures))

pub fill-requires : goal.fill-requires
fill-requires c = let a = c.args in
    record { coordinates_in_bounds = planned_long a.limit a.s.now a.n a.vertices.now a.normals.now a.indices.now a.spans.now a.account.now a.log.now a.millimetres.now c.requires c.write_objects-c.ensures; each = planned_reach a.limit a.s.now a.n a.vertices.now a.normals.now a.indices.now a.spans.now a.account.now a.log.now a.millimetres.now c.requires c.write_objects-c.ensures }

pub returns : goal.returns
returns c = let a = c.args in
    planned_built a.limit a.s.now a.n a.vertices.now a.normals.now a.indices.now a.spans.now a.account.now a.log.now a.millimetres.now c.requires c.write_objects-c.ensures c.fill.ensures
