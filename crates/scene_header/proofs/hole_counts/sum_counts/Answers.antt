use Rattle.std.proofs.Common.{arith, sym, ◌*◌, ◌+◌}
use Rattle.lists.proofs.Tests.{sum_start, sum_next, sum_end}
use Rattle.scene.proofs.RecordLaws.{counts_past}
use Rattle.scene_field.specs.Fields.{u16_at, counts_at}
use Rattle.scene_header.proofs.hole_counts.sum_counts.Goals as goal

pub returns-then-s-i : goal.returns-then-s-i
returns-then-s-i c = let a = c.args in
    (sym (counts_past a.s.now a.n a.i c.if-s-i.true), omega arith)

pub loop-k-init : goal.loop-k-init
unfolding counts_at
loop-k-init c = let a = c.args in
    (omega arith, sum_start (λ j. u16_at a.s.now (a.i + 2 * j)) a.n)

pub loop-k-preserved : goal.loop-k-preserved
loop-k-preserved c = let a = c.args in
    let l = c.loop-k in
    let more = sum_next (λ j. u16_at a.s.now (a.i + 2 * j)) a.n l.k l.sum _ c.loop-k-test.true l.invariant.1 in
    (omega arith, omega (arith, more))

pub returns : goal.returns
returns c = let a = c.args in
    let l = c.loop-k in
    let all = sum_end (λ j. u16_at a.s.now (a.i + 2 * j)) a.n l.k l.sum _ c.loop-k-test.false l.invariant.1 in
    (all, omega arith)
