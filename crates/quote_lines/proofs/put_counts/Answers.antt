-- `quote_lines::put_counts` meets its contract: its fields one behind the other. Assumes nothing.
use Rattle.std.proofs.Common.{arith}
use Rattle.quote_lines.specs.Lines.{counts_line}
use Rattle.quote_lines.proofs.Writers.{room_behind, written_then}
use Rattle.quote_lines.proofs.put_counts.Goals as goal

pub put_field-requires-2 : goal.put_field-requires-2
put_field-requires-2 c = let x = c.put_field.ensures in room_behind x.0 41 20 (omega (arith, x.1)) c.requires

pub put_field-requires-3 : goal.put_field-requires-3
put_field-requires-3 c =
    let x = c.put_field.ensures in
    let y = c.put_field-2.ensures in
    room_behind (written_then x.0 y.0) 42 19 (omega (arith, x.1, y.1)) c.requires

pub put_word-requires : goal.put_word-requires
put_word-requires c =
    let x = c.put_field.ensures in
    let y = c.put_field-2.ensures in
    let z = c.put_field-3.ensures in
    room_behind (written_then (written_then x.0 y.0) z.0) 54 7 (omega (arith, x.1, y.1, z.1)) c.requires

pub returns : goal.returns
unfolding counts_line
returns c =
    let x = c.put_field.ensures in
    let y = c.put_field-2.ensures in
    let z = c.put_field-3.ensures in
    let w = c.put_word.ensures in
    (written_then (written_then (written_then x.0 y.0) z.0) w, omega (arith, x.1, y.1, z.1, w.wrote.place))
