use Rattle.std.proofs.Common.{arith, length, refl, sym, ◌∙◌, ◌≡◌}
use Rattle.lid_hole.proofs.PutLaws.{place_here, place_next, place_end}
use Rattle.lid_hole.proofs.order.find_place.Goals as goal

pub loop-i-init : goal.loop-i-init
loop-i-init c = (omega arith, refl)

pub returns-then-total_less : goal.returns-then-total_less
returns-then-total_less c = let a = c.args in
    (place_here a.rights.now a.g a.order.now _ c.loop-i.i c.loop-i.invariant.1 c.loop-i-test.true (rw (← c.coordinate.ensures, ← c.coordinate-right.ensures) (sym c.total_less.ensures ∙ c.if-total_less.true)), omega arith)

pub loop-i-preserved : goal.loop-i-preserved
loop-i-preserved c = let a = c.args in
    (omega arith, place_next a.rights.now a.g a.order.now _ c.loop-i.i c.loop-i.invariant.1 c.loop-i-test.true (rw (← c.coordinate.ensures, ← c.coordinate-right.ensures) (sym c.total_less.ensures ∙ c.if-total_less.false)))

pub returns : goal.returns
returns c = let a = c.args in
    let all : length a.order.now ≡ c.loop-i.i = omega arith in
    (rw all (place_end a.rights.now a.g a.order.now _ c.loop-i.i c.loop-i.invariant.1 c.loop-i-test.false), omega arith)
