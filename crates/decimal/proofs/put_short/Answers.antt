use Rattle.std.proofs.Common.{ap, arith, length}
use Rattle.decimal.proofs.Digits.{some_digit, decimal_two}
use Rattle.decimal.proofs.Stores.{short_one, short_two}
use Rattle.decimal.proofs.put_short.Goals as goal

pub bounds-text-at : goal.bounds-text-at
bounds-text-at c = omega (arith, some_digit c.args.n)

pub put_pair-requires : goal.put_pair-requires
put_pair-requires c = let a = c.args in
    (c.requires.0, omega (arith, ap length (decimal_two a.n c.if-n-lt10.false c.requires.0)))

pub returns-then-n-lt10 : goal.returns-then-n-lt10
returns-then-n-lt10 c = let a = c.args in
    short_one a.text.now a.at a.n c.digit.result c.if-n-lt10.true c.digit.ensures

pub returns-else-n-lt10 : goal.returns-else-n-lt10
returns-else-n-lt10 c = let a = c.args in
    short_two a.text.now a.at a.n c.if-n-lt10.false c.requires.0 c.put_pair.ensures
