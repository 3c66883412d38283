use Rattle.mesh_bound_scene.proofs.Sums.{Sums}
use Rattle.mesh_bound_scene.proofs.bound_of_all.Given as goal

abbrev pub invariant-loop : goal.invariant-loop
invariant-loop l = Sums l.limit l.group l.counting l.s l.n l.most l.at l.counter
