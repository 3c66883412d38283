use Rattle.std.proofs.Common.{arith, refl}
use Rattle.quote_lines.proofs.Writers.{word_stored}
use Rattle.quote_lines.proofs.Writer.put_word.Goals as goal

pub returns : goal.returns
returns c =
    let w = c.args.self.now in
    record {
      wrote = record { place = refl; stored = word_stored w.text.now c.args.word.now c.copy_from_slice.new.self w.at _ c.requires (omega arith) c.copy_from_slice.ensures.after };
      loan = refl;
    }
