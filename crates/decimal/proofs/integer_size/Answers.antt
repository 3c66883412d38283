use Rattle.std.proofs.Common.{ap, arith, length}
use Rattle.decimal.proofs.Signs.{kept_is, size_i64}
use Rattle.decimal.specs.Decimals.{decimal}
use Rattle.decimal.specs.Contract.Decimals.{integer}
use Rattle.decimal.proofs.integer_size.Goals as goal

pub overflow_add-result : goal.overflow_add-result
overflow_add-result c = let a = c.args in
    omega (arith, size_i64 a.x c.ranges.x, c.sign_size.ensures, c.decimal_size.ensures, ap (λ m. length (decimal m)) c.unsigned_abs.ensures.value, ap (λ z. length (integer z)) (kept_is a.x c.ranges.x))

pub returns : goal.returns
returns c = omega (arith, c.sign_size.ensures, c.decimal_size.ensures, ap (λ m. length (decimal m)) c.unsigned_abs.ensures.value, ap (λ z. length (integer z)) (kept_is c.args.x c.ranges.x))
