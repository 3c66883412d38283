use Rattle.std.proofs.Common.{arith, ◌∙◌}
use Rattle.decimal.proofs.Stores.{ending_start, ending_next, two_before, ending_room, ending_end}
use Rattle.decimal.proofs.Texts.{same_length as kept-length}
use Rattle.decimal.proofs.put_decimal.Goals as goal

pub overflow_add-next : goal.overflow_add-next
overflow_add-next c = omega (arith, c.decimal_size.ensures)

pub loop-rest-init : goal.loop-rest-init
loop-rest-init c = let a = c.args in
    ending_start a.text.now a.at a.n c.decimal_size.result c.requires c.decimal_size.ensures

pub overflow_sub-i : goal.overflow_sub-i
overflow_sub-i c = let a = c.args in
    omega (arith, two_before a.text.now a.at a.n c.loop-rest.text c.loop-rest.i c.loop-rest.rest c.loop-rest-test.true c.loop-rest.invariant)

pub put_pair-requires : goal.put_pair-requires
put_pair-requires c = let a = c.args in
    (omega arith, omega (arith, two_before a.text.now a.at a.n c.loop-rest.text c.loop-rest.i c.loop-rest.rest c.loop-rest-test.true c.loop-rest.invariant))

pub loop-rest-preserved : goal.loop-rest-preserved
loop-rest-preserved c = let a = c.args in
    ending_next a.text.now a.at a.n c.loop-rest.text c.loop-rest.i c.loop-rest.rest c.loop-rest-test.true c.put_pair.ensures c.loop-rest.invariant

pub put_short-requires : goal.put_short-requires
put_short-requires c = let a = c.args in
    (c.loop-rest-test.false, ending_room a.text.now a.at a.n c.loop-rest.text c.loop-rest.i c.loop-rest.rest c.loop-rest.invariant)

pub shape_of-text : goal.shape_of-text
shape_of-text c = kept-length c.put_short.ensures ∙ c.loop-rest.invariant.long

pub returns : goal.returns
returns c = let a = c.args in
    let l = c.loop-rest in
    ending_end a.text.now a.at a.n l.text l.i l.rest c.decimal_size.result _ c.decimal_size.ensures c.loop-rest.invariant c.put_short.ensures
