use Rattle.std.proofs.Common.{arith}
use Rattle.lid_clip.proofs.HeldRun.{run_left, run_more, run_end}
use Rattle.lid_clip.proofs.clip_held.Goals as goal

pub overflow_add-entries : goal.overflow_add-entries
overflow_add-entries c = let l = c.loop-s in
    let s = c.clip_once in
    omega (arith, l.invariant.clipping.so_far, run_left _ _ _ _ _ l.ring _ _ _ l.log l.triangles l.from _ l.entries l.count l.invariant s.new.ring s.auto.ring s.new.rxs s.new.rys s.new.why s.new.log s.new.triangles c.in-Some.s c.in-Some.ensures, c.requires.ring_bound)

pub loop-s-smaller : goal.loop-s-smaller
loop-s-smaller c = let l = c.loop-s in
    let s = c.clip_once in
    omega (arith, run_left _ _ _ _ _ l.ring _ _ _ l.log l.triangles l.from _ l.entries l.count l.invariant s.new.ring s.auto.ring s.new.rxs s.new.rys s.new.why s.new.log s.new.triangles c.in-Some.s c.in-Some.ensures)

pub loop-s-preserved : goal.loop-s-preserved
loop-s-preserved c = let l = c.loop-s in
    let s = c.clip_once in
    run_more _ _ _ _ _ l.ring l.rxs l.rys l.why l.log l.triangles l.from _ l.entries l.count l.invariant s.new.ring s.auto.ring s.new.rxs s.new.rys s.new.why s.new.log s.new.triangles c.in-Some.s c.in-Some.ensures s.auto.rxs s.auto.rys s.auto.why s.auto.log s.auto.triangles

pub returns : goal.returns
returns c = let l = c.loop-s in
    let s = c.clip_once in
    run_end _ _ _ _ _ l.ring _ _ _ l.log l.triangles l.from _ l.entries l.count l.invariant s.new.ring s.auto.ring s.new.rxs s.new.rys s.new.why s.new.log s.new.triangles c.in_default.ensures
