use Rattle.std.proofs.Common.{eq-eqb, ne_eqb, ◌*◌, ◌+◌}
use Rattle.lists.specs.Loops.{join}
use Rattle.mesh_progress.proofs.Pass.Tails.{sets_fifth}
use Rattle.mesh.specs.Mesh.{span_numbers}
use Rattle.mesh_progress.specs.Contract.Pass.{span_by}
use Rattle.mesh_progress.proofs.records.put_span.Goals as goal

pub returns-then-t-eq0 : goal.returns-then-t-eq0
unfolding span_by span_numbers join
returns-then-t-eq0 c = rw (eq-eqb _ _ c.if-t-eq0.true)

pub returns : goal.returns
unfolding span_by span_numbers join
returns c = let a = c.args in
    rw (ne_eqb _ _ c.if-t-eq0.false, c.put.ensures, c.put_four.ensures) (sets_fifth a.spans.now (5 * a.p.spans) a.id a.p.vertices (a.p.vertices + a.t.vertices) (3 * a.p.kept) (3 * (a.p.kept + a.t.kept)))
