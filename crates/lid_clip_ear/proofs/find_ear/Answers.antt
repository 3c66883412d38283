use Rattle.std.proofs.Common.{sym, ◌∙◌}
use Rattle.lid_clip_ear.proofs.EarLaws.{looking_start, looking_pass, looking_next, looking_found, looking_end}
use Rattle.lid_clip_ear.proofs.find_ear.Goals as goal

pub loop-i-init : goal.loop-i-init
loop-i-init c = let a = c.args in
    looking_start _ _ a.why.now a.why.now c.requires.why_len c.requires.known

pub loop-i-preserved-then-q-eq1 : goal.loop-i-preserved-then-q-eq1
loop-i-preserved-then-q-eq1 c = let l = c.loop-i in
    looking_pass _ _ _ l.why l.i c.loop-i-test.true l.invariant c.if-q-eq1.true

pub test_place-requires : goal.test_place-requires
test_place-requires c = record { at_in_bounds = c.loop-i-test.true; in_ring_order = c.requires.in_ring_order }

pub returns-in_default : goal.returns-in_default
returns-in_default c = let l = c.loop-i in
    let r = looking_found _ _ _ l.why l.i c.loop-i-test.true l.invariant c.if-q-eq1.false (sym c.test_place.ensures ∙ c.in_default.is) in
    record { result_value = r.0; why_after = r.1.0; known_2 = r.1.1 }

pub loop-i-preserved : goal.loop-i-preserved
loop-i-preserved c = let l = c.loop-i in
    looking_next _ _ _ l.why l.i c.loop-i-test.true l.invariant c.if-q-eq1.false c.in-Some.w (sym c.test_place.ensures ∙ c.in-Some.is)

pub returns : goal.returns
returns c = let l = c.loop-i in
    let r = looking_end _ _ _ l.why l.i c.loop-i-test.false l.invariant in
    record { result_value = r.0; why_after = r.1.0; known_2 = r.1.1 }
