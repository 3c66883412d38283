use Rattle.std.proofs.Common.{arith, ◌+◌, ◌<◌}
use Rattle.mesh_progress.proofs.Pass.Walks.{begun_at, walks_start, can_add, one_more, walks_next, walks_end}
use Rattle.mesh_build.proofs.pass.write_behind.Goals as goal

pub loop-init : goal.loop-init
loop-init c = let a = c.args in (walks_start a.limit a.s.now a.n (begun_at a.from) _ c.requires.0 c.requires.1, omega arith)

pub object_at-p-requires : goal.object_at-p-requires
object_at-p-requires c = can_add c.loop.invariant.0 (omega (arith, c.loop.invariant.1, c.loop-test.true))

pub loop-preserved : goal.loop-preserved
loop-preserved c =
    let l : c.loop.p.objects < c.args.from.objects + c.args.n = omega (arith, c.loop.invariant.1, c.loop-test.true) in
    (walks_next c.loop.invariant.0 l c.object_at-p.ensures, omega (arith, c.loop.invariant.1, one_more c.loop.invariant.0 l c.object_at-p.ensures))

pub returns : goal.returns
returns c = λ os e. record { pass = (walks_end c.loop.invariant.0 (omega (arith, c.loop.invariant.1, c.loop-test.false)) os e).pass }
