use Rattle.std.proofs.Common.{ap, arith, length, set, sym, ◌+◌}
use Rattle.decimal.proofs.Signs.{kept, kept_is}
use Rattle.decimal.proofs.Stores.{sign_room, sign_place, signed}
use Rattle.decimal.proofs.Texts.{same_length as kept-length, wrote_as, room_as}
use Rattle.decimal.specs.Decimals.{decimal}
use Rattle.decimal.specs.Contract.Decimals.{integer}
use Rattle.decimal.proofs.put_integer.Goals as goal

pub bounds-text-at : goal.bounds-text-at
bounds-text-at c = omega (arith, sign_place c.args.x)

pub overflow_add-at : goal.overflow_add-at
overflow_add-at c = omega (arith, c.sign_size.ensures, ap (λ z. length (integer z)) (kept_is c.args.x c.ranges.x))

pub put_decimal-requires : goal.put_decimal-requires
put_decimal-requires c = let a = c.args in
    room_as (set a.text.now a.at 45) (a.at + c.sign_size.result) (ap decimal (sym c.unsigned_abs-digits.ensures.value)) (sign_room (kept a.x) a.text.now a.at c.sign_size.result c.sign_size.ensures (room_as a.text.now a.at (ap integer (sym (kept_is a.x c.ranges.x))) c.requires))

pub shape_of-text : goal.shape_of-text
shape_of-text c = let a = c.args in
    kept-length (signed (kept a.x) a.text.now _ a.at c.sign_size.result _ c.sign_size.ensures (wrote_as (ap decimal (sym c.unsigned_abs-digits.ensures.value)) c.put_decimal.ensures))

pub returns : goal.returns
returns c = let a = c.args in
    wrote_as (ap integer (sym (kept_is a.x c.ranges.x))) (signed (kept a.x) a.text.now _ a.at c.sign_size.result _ c.sign_size.ensures (wrote_as (ap decimal (sym c.unsigned_abs-digits.ensures.value)) c.put_decimal.ensures))
