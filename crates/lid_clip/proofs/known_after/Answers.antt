use Rattle.std.proofs.Common.{arith}
use Rattle.lid_clip.specs.Contract.Held.{known_after}
use Rattle.lid_clip.proofs.MarkLaws.{marked_ear, max_is}
use Rattle.lid_clip.proofs.known_after.Goals as goal

pub returns-then-eq : goal.returns-then-eq
unfolding known_after
returns-then-eq c = (rw (c.max.ensures, marked_ear _ _ _ c.eq.ensures c.if-eq.true) (max_is _ _), omega (arith, c.max.ensures), omega (arith, c.max.ensures))

pub returns : goal.returns
unfolding known_after
returns c = (rw (marked_ear _ _ _ c.eq.ensures c.if-eq.false), omega arith, omega arith)
