use Rattle.std.proofs.Common.{arith}
use Rattle.quote_lines.proofs.Writers.{ten_digits, room_left, written_then}
use Rattle.quote_lines.proofs.Writer.put_field.Goals as goal

pub put_number-requires : goal.put_number-requires
put_number-requires c = room_left c.put_word.ensures 10 c.requires

pub returns : goal.returns
returns c =
    let w = c.put_word.ensures in
    let v = c.put_number.ensures in
    (written_then w v, omega (arith, ten_digits c.args.n (omega arith), w.wrote.place, v.wrote.place))
