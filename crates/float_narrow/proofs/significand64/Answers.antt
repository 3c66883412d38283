-- `float_narrow::significand64` meets its contract, by the law of the significand in any format. Assumes nothing.
use lib.Ieee.{binary64}
use Rattle.float.proofs.Rounding.{significand_low, significand_high}
use Rattle.float_narrow.proofs.significand64.Goals as goal

pub returns-then-b-lt4503599627370496 : goal.returns-then-b-lt4503599627370496
returns-then-b-lt4503599627370496 c = significand_low binary64 c.args.b c.if-b-lt4503599627370496.true

pub returns-else-b-lt4503599627370496 : goal.returns-else-b-lt4503599627370496
returns-else-b-lt4503599627370496 c = significand_high binary64 c.args.b c.if-b-lt4503599627370496.false
