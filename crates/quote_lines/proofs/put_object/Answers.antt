-- `quote_lines::put_object` meets its contract: its fields one behind the other. Assumes nothing.
use Rattle.std.proofs.Common.{arith}
use Rattle.quote_lines.specs.Lines.{account_line}
use Rattle.quote_lines.proofs.Writers.{room_behind, written_then}
use Rattle.quote_lines.proofs.put_object.Goals as goal

pub put_field-requires-2 : goal.put_field-requires-2
put_field-requires-2 c = let x = c.put_field.ensures in room_behind x.0 50 19 (omega (arith, x.1)) c.requires

pub put_field-requires-3 : goal.put_field-requires-3
put_field-requires-3 c =
    let x = c.put_field.ensures in
    let y = c.put_field-2.ensures in
    room_behind (written_then x.0 y.0) 53 16 (omega (arith, x.1, y.1)) c.requires

pub put_field-requires-4 : goal.put_field-requires-4
put_field-requires-4 c =
    let x = c.put_field.ensures in
    let y = c.put_field-2.ensures in
    let z = c.put_field-3.ensures in
    room_behind (written_then (written_then x.0 y.0) z.0) 53 16 (omega (arith, x.1, y.1, z.1)) c.requires

pub put_byte-requires : goal.put_byte-requires
put_byte-requires c =
    let x = c.put_field.ensures in
    let y = c.put_field-2.ensures in
    let z = c.put_field-3.ensures in
    let t = c.put_field-4.ensures in
    room_behind (written_then (written_then (written_then x.0 y.0) z.0) t.0) 68 1 (omega (arith, x.1, y.1, z.1, t.1)) c.requires

pub returns : goal.returns
unfolding account_line
returns c =
    let x = c.put_field.ensures in
    let y = c.put_field-2.ensures in
    let z = c.put_field-3.ensures in
    let t = c.put_field-4.ensures in
    let w = c.put_byte.ensures in
    (written_then (written_then (written_then (written_then x.0 y.0) z.0) t.0) w, omega (arith, x.1, y.1, z.1, t.1, w.wrote.place))
