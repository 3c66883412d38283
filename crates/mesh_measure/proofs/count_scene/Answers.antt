use Rattle.std.proofs.Common.{rules, sym, ◌∙◌}
use Rattle.scene.proofs.Walk.{checked_accepted}
use Rattle.mesh_bound.proofs.Few.{few_all}
use Rattle.mesh_measure.proofs.Counting.{counted_refused, counted_accepted}
use Rattle.mesh_measure.proofs.count_scene.Goals as goal

pub returns-in_err-n : goal.returns-in_err-n
returns-in_err-n c = let e = counted_refused c.args.limit c.args.s.now c.args.counting _ (sym c.in_err-n.was ∙ c.check_scene.ensures) in search rules

pub bound_counts-requires : goal.bound_counts-requires
bound_counts-requires c = (few_all c.bound_of_all-m.ensures.0, (checked_accepted _ _ (sym c.in_ok-n.was ∙ c.check_scene.ensures)).few)

pub returns : goal.returns
returns c = counted_accepted _ _ _ _ _ (sym c.in_ok-n.was ∙ c.check_scene.ensures) c.bound_of_all-m.ensures.1 c.bound_counts.ensures
