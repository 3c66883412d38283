-- `quote_lines::put_refused` meets its contract: its number and the line feed. Assumes nothing.
use Rattle.std.proofs.Common.{arith}
use Rattle.quote_lines.specs.Lines.{refused_line}
use Rattle.quote_lines.proofs.Writers.{room_behind, written_then}
use Rattle.quote_lines.proofs.put_refused.Goals as goal

pub put_word-requires : goal.put_word-requires
put_word-requires c = let x = c.put_field.ensures in room_behind x.0 18 1 x.1 c.requires

pub returns : goal.returns
unfolding refused_line
returns c = let x = c.put_field.ensures in
    let w = c.put_word.ensures in
    (written_then x.0 w, omega (arith, x.1, w.wrote.place))
