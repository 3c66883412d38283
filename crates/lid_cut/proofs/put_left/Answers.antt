use Rattle.std.proofs.Common.{add-one, arith, drop-cons, drop_of_length-le, refl}
use Rattle.lid_log.proofs.RecordLaws.{log_next, log_end}
use Rattle.lid_cut.proofs.put_left.Goals as goal

pub loop-corner-init : goal.loop-corner-init
loop-corner-init c = (omega arith, refl)

pub loop-corner-preserved : goal.loop-corner-preserved
loop-corner-preserved c = let l = c.loop-corner in
    (omega arith, rw (add-one l.corner-index) (log_next l.log _ _ l.entries _ _ (rw c.into.ensures at c.put_entry.ensures) (rw (drop-cons c.args.ring.now l.corner-index 0 c.loop-corner-test.true) at l.invariant.1)))

pub returns : goal.returns
returns c = let l = c.loop-corner in log_end l.log _ l.entries (rw (drop_of_length-le c.args.ring.now c.loop-corner-test.false) at l.invariant.1)
