use Rattle.std.proofs.Common.{Err, rules, subst, sym, ◌≡◌, ◌∙◌}
use Rattle.mesh_answer.specs.Contract.Answers.{lengths_from}
use Rattle.mesh_build.specs.Contract.Plan.{Plan, PlanHolds}
use Rattle.mesh_build.proofs.Built.{plan_refused}
use Rattle.mesh_build.proofs.plan_scene.Goals as goal

pub returns-in_err-n : goal.returns-in_err-n
returns-in_err-n c = let a = c.args in
    let e : ◌≡◌ {A = Plan} (Err c.in_err-n.field-0.0) c.from_residual.result = search rules in
    subst (PlanHolds a.limit a.s.now (lengths_from a.has)) e (plan_refused _ _ _ _ (sym c.in_err-n.was ∙ c.check_scene.ensures))

pub plan_objects-requires : goal.plan_objects-requires
plan_objects-requires c = sym c.in_ok-n.was ∙ c.check_scene.ensures

pub returns : goal.returns
returns c = c.plan_objects.ensures
