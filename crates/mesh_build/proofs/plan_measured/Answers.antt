use Rattle.std.proofs.Common.{subst, sym}
use Rattle.scene.proofs.Walk.{checked_accepted}
use Rattle.mesh_answer.specs.Contract.Answers.{lengths_from}
use Rattle.mesh_bound.specs.declared.Counting.TheVariants.{Exact, Highest}
use Rattle.mesh_bound.specs.Contract.Groups.{FewOfBoth}
use Rattle.mesh_bound.proofs.Few.{few_together}
use Rattle.mesh_bound_scene.proofs.Counts.{Measured, Suffices, sums_suffice, sums_measured}
use Rattle.mesh_build.proofs.Built.{plan_bounded, plan_exact}
use Rattle.mesh_build.proofs.plan_measured.Goals as goal

pub add-requires : goal.add-requires
add-requires c = few_together c.bound_of_all-others.ensures.0 c.bound_of_all-most.ensures.0

pub plan_bounds-requires : goal.plan_bounds-requires
plan_bounds-requires c = (subst FewOfBoth (sym c.add.ensures) (few_together c.bound_of_all-others.ensures.0 c.bound_of_all-most.ensures.0), (checked_accepted _ _ c.requires).few)

pub returns-in-Ok : goal.returns-in-Ok
returns-in-Ok c = let h = c.requires in
    let enough = sums_suffice _ _ Exact Highest c.bound_of_all-others.ensures.1 c.bound_of_all-most.ensures.1 in
    plan_bounded _ _ _ _ h (subst (Suffices _ _) (sym c.add.ensures) enough) c.in-Ok.is c.plan_bounds.ensures

pub add-requires-2 : goal.add-requires-2
add-requires-2 c = few_together c.bound_of_all-others.ensures.0 c.bound_of_all-lids.ensures.0

pub plan_bounds-requires-2 : goal.plan_bounds-requires-2
plan_bounds-requires-2 c = (subst FewOfBoth (sym c.add-2.ensures) (few_together c.bound_of_all-others.ensures.0 c.bound_of_all-lids.ensures.0), (checked_accepted _ _ c.requires).few)

pub returns : goal.returns
returns c = let a = c.args in
    let all = sums_measured _ _ c.bound_of_all-others.ensures.1 c.bound_of_all-lids.ensures.1 in
    plan_exact _ _ (lengths_from a.has) _ c.requires (subst (Measured _ _) (sym c.add-2.ensures) all) c.plan_bounds-2.result c.plan_bounds-2.ensures
