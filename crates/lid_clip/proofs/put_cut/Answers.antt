use Rattle.std.proofs.Common.{add-zero, sym}
use Rattle.lid.specs.Contract.Written.{triangle_numbers}
use Rattle.lid.specs.Lid.{ears_of}
use Rattle.lists.specs.Loops.{join}
use Rattle.lid_clip.proofs.MarkLaws.{marked_ear}
use Rattle.lid_clip.proofs.put_cut.Goals as goal

pub returns-then-eq : goal.returns-then-eq
unfolding ears_of
returns-then-eq c = let ear = marked_ear _ _ _ c.eq.ensures c.if-eq.true in
    (rw (← c.into.ensures) c.put_entry.ensures, rw ear c.put_triangle.ensures, rw ear)

pub returns : goal.returns
unfolding triangle_numbers join ears_of
returns c = let other = marked_ear _ _ _ c.eq.ensures c.if-eq.false in
    (rw (← c.into.ensures) c.put_entry.ensures, rw other, rw other (sym (add-zero c.args.count)))
