use Rattle.scene.proofs.Walk.{checked_accepted}
use Rattle.mesh_bound.proofs.Few.{few_all}
use Rattle.mesh_bound_scene.proofs.Counts.{sum_suffices}
use Rattle.mesh_build.proofs.Built.{plan_bounded}
use Rattle.mesh_build.proofs.plan_objects.Goals as goal

pub plan_bounds-requires : goal.plan_bounds-requires
plan_bounds-requires c = (few_all c.bound_of_all-most.ensures.0, (checked_accepted _ _ c.requires).few)

pub returns-in-Ok : goal.returns-in-Ok
returns-in-Ok c = plan_bounded _ _ _ _ c.requires (sum_suffices _ _ c.bound_of_all-most.ensures.1) c.in-Ok.is c.plan_bounds.ensures
