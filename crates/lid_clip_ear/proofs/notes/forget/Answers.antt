use Rattle.std.proofs.Common.{arith, rules, ◌∙◌}
use Rattle.lid_clip_ear.proofs.NoteLaws.{anew_long, shifted_long, forgot}
use Rattle.lid_clip_ear.proofs.notes.forget.Goals as goal

pub slice_bounds-shift_all-end : goal.slice_bounds-shift_all-end
slice_bounds-shift_all-end c = let a = c.args in
    omega (arith, anew_long a.why.now c.place_before-h.result.0 c.place_after-j.result.0, c.requires.at_lt_known.1)

pub shift_before-requires : goal.shift_before-requires
shift_before-requires c = let a = c.args in
    let s = c.shift_all in
    omega (arith, shifted_long a.why.now a.at.0 c.place_before-h.result.0 c.place_after-j.result.0 a.known s.new.why s.auto.why, c.requires.at_lt_known.0, c.requires.at_lt_known.1)

pub shape_of-why : goal.shape_of-why
shape_of-why c = let a = c.args in
    let s = c.shift_all in
    c.shift_before.auto.why ∙ shifted_long a.why.now a.at.0 c.place_before-h.result.0 c.place_after-j.result.0 a.known s.new.why s.auto.why

pub returns : goal.returns
returns c = let a = c.args in
    let pre = c.requires in
    let h = c.place_before-h in
    let j = c.place_after-j in
    let low = c.unmoved-low in
    let s = c.shift_all in
    forgot a.why.now s.new.why c.shift_before.new.why a.at.0 h.result.0 j.result.0 low.result a.known pre.at_lt_known.0 pre.at_lt_known.1 pre.none_from (λ k. search rules) h.ensures.0 j.ensures.0 low.ensures s.ensures c.shift_before.ensures
