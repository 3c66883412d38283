use Rattle.std.proofs.Common.{refl, rules}
use Rattle.mesh.specs.PerBuffer.{lent}
use Rattle.mesh.specs.Operations.{counts_of}
use Rattle.mesh_build.proofs.build_scene.Goals as goal

pub write_all-requires : goal.write_all-requires
unfolding counts_of
write_all-requires c = rw c.in_ok-n.was at c.plan_scene.ensures

pub returns-in_err-n : goal.returns-in_err-n
unfolding counts_of
returns-in_err-n c = let a = c.args in
    let e = (rw c.in_err-n.was at c.plan_scene.ensures) (lent a.vertices.now a.normals.now a.indices.now a.spans.now a.account.now a.log.now a.millimetres.now) refl in
    search rules

pub returns : goal.returns
returns c = c.write_all.ensures
