-- `quote_write::put_accepted` meets its contract: the lines stand one behind the other, and there is room for them. Assumes nothing.
use Rattle.std.proofs.Common.{arith}
use Rattle.decimal.proofs.Texts.{same_length as kept-length}
use Rattle.quote_lines.proofs.Writers.{written_then, writes_as}
use Rattle.quote_write.proofs.Whole.{priced, few, text_is}
use Rattle.quote_write.proofs.put_accepted.Goals as goal

pub put_objects-requires : goal.put_objects-requires
put_objects-requires c = let p = c.requires in
    (priced c.args.s.now p.0 p.1, omega (arith, few c.args.s.now p.0 p.1 p.2, p.3))

pub put_counts-requires : goal.put_counts-requires
put_counts-requires c = let p = c.requires in
    let w = c.put_objects.ensures in
    omega (arith, few c.args.s.now p.0 p.1 p.2, p.3, w.1, kept-length w.0.wrote)

pub put_verdict-requires : goal.put_verdict-requires
put_verdict-requires c = let p = c.requires in
    let w = c.put_objects.ensures in
    let x = c.put_counts.ensures in
    omega (arith, few c.args.s.now p.0 p.1 p.2, p.3, w.1, x.1, kept-length w.0.wrote, kept-length x.0.wrote)

pub returns : goal.returns
returns c = let p = c.requires in
    let w = c.put_objects.ensures in
    let x = c.put_counts.ensures in
    let y = c.put_verdict.ensures in
    (writes_as (text_is c.args.s.now p.0 p.1) (written_then (written_then w.0 x.0) y.0), omega (arith, few c.args.s.now p.0 p.1 p.2, w.1, x.1, y.1))
