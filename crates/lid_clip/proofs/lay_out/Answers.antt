use Rattle.std.proofs.Common.{arith}
use Rattle.lid_clip.proofs.HeldLaws.{laying_start, laying_next, laying_end}
use Rattle.lid_clip.proofs.lay_out.Goals as goal

pub loop-k-init : goal.loop-k-init
loop-k-init c = (omega arith, laying_start _ _ _, laying_start _ _ _)

pub offset_bounds-rxs-k : goal.offset_bounds-rxs-k
offset_bounds-rxs-k c = omega (arith, c.loop-k.invariant.1.long)

pub bounds-rxs-k : goal.bounds-rxs-k
bounds-rxs-k c = omega (arith, c.loop-k.invariant.1.long)

pub offset_bounds-rys-k : goal.offset_bounds-rys-k
offset_bounds-rys-k c = omega (arith, c.loop-k.invariant.2.long)

pub bounds-rys-k : goal.bounds-rys-k
bounds-rys-k c = omega (arith, c.loop-k.invariant.2.long)

pub loop-k-preserved : goal.loop-k-preserved
loop-k-preserved c = let l = c.loop-k in
    (omega arith, laying_next _ _ _ l.rxs l.k _ c.loop-k-test.true (omega (arith, l.invariant.1.long)) (rw c.at-f.ensures) l.invariant.1, laying_next _ _ _ l.rys l.k _ c.loop-k-test.true (omega (arith, l.invariant.2.long)) (rw c.at-f.ensures) l.invariant.2)

pub returns : goal.returns
returns c = let l = c.loop-k in
    record { first_coordinates = laying_end _ _ _ l.rxs l.k c.loop-k-test.false (omega arith) l.invariant.1; second_coordinates = laying_end _ _ _ l.rys l.k c.loop-k-test.false (omega arith) l.invariant.2 }

pub shape_of-rxs : goal.shape_of-rxs
shape_of-rxs c = c.loop-k.invariant.1.long

pub shape_of-rys : goal.shape_of-rys
shape_of-rys c = c.loop-k.invariant.2.long
