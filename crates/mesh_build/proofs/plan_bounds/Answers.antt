use Rattle.std.proofs.Common.{sym, ◌∙◌}
use Rattle.mesh_bound.proofs.Few.{few_fit}
use Rattle.mesh_build.proofs.Built.{plan_complete, plan_short}
use Rattle.mesh_build.proofs.plan_bounds.Goals as goal

pub returns-in-Ok : goal.returns-in-Ok
returns-in-Ok c = let p = c.requires in
    plan_complete _ _ c.bound_counts.ensures (few_fit p.0 p.1) (sym c.in-Ok.is ∙ c.room.ensures)

pub returns-in-Err : goal.returns-in-Err
returns-in-Err c = plan_short _ c.args.n c.bound_counts.ensures _ (sym c.in-Err.is ∙ c.room.ensures)
