use Rattle.std.proofs.Common.{ap, arith, length, refl, sym}
use Rattle.decimal.specs.Decimals.{decimal}
use Rattle.decimal.proofs.Texts.{wrote_as}
use Rattle.quote_lines.proofs.Writers.{ten_digits}
use Rattle.quote_lines.proofs.Writer.put_number.Goals as goal

pub put_decimal-self-requires : goal.put_decimal-self-requires
put_decimal-self-requires c = omega (arith, ten_digits c.args.n (omega arith), ap (λ n. length (decimal n)) c.from.ensures)

pub returns : goal.returns
returns c = record { wrote = wrote_as (ap decimal (sym c.from.ensures)) c.put_decimal-self.ensures; loan = refl }
