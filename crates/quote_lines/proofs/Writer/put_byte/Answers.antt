use Rattle.std.proofs.Common.{refl}
use Rattle.decimal.proofs.Texts.{wrote_byte}
use Rattle.quote_lines.proofs.Writer.put_byte.Goals as goal

pub returns : goal.returns
returns c = let w = c.args.self.now in record { wrote = wrote_byte w.text.now w.at c.args.byte; loan = refl }
