use Rattle.std.proofs.Common.{ap, arith, sym, ◌≡◌}
use Rattle.decimal.specs.Contract.Decimals.{ten_to}
use Rattle.decimal.proofs.ten_to.Goals as goal

pub returns-in_default : goal.returns-in_default
returns-in_default c =
    let e : c.args.k ≡ 19 = omega arith in
    sym (ap ten_to e)
