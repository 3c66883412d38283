use Rattle.std.proofs.Common.{◌+◌, ◌≡◌}
use Rattle.mesh_progress.specs.Contract.Pass.{drawn_into}
use Rattle.mesh_progress.proofs.Pass.Walks.{Walks}
use Rattle.mesh_build.proofs.pass.write_behind.Given as goal

abbrev pub invariant-loop : goal.invariant-loop
invariant-loop l =
    Walks l.limit l.s l.n l.initial.p (drawn_into l.initial.vs l.initial.ns l.initial.is l.initial.spans l.initial.account l.initial.log) (drawn_into l.vs l.ns l.is l.spans l.account l.log) l.p × (l.p.objects ≡ l.initial.p.objects + l.counter)
