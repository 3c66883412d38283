use Rattle.std.proofs.Common.{arith, refl, sym, take_all, ◌*◌, ◌+◌, ◌∙◌}
use Rattle.lists.specs.Loops.{list}
use Rattle.scene_field.specs.Fields.{u16_at, counts_at}
use Rattle.shape_outline_lid.proofs.FillLaws.{front_next, front_end}
use Rattle.shape_outline_lid.proofs.cut.read_counts.Goals as goal

pub loop-k-init : goal.loop-k-init
unfolding list
loop-k-init c = refl

pub loop-k-preserved : goal.loop-k-preserved
loop-k-preserved c = let a = c.args in
    let l = c.loop-k in
    front_next (λ j. u16_at a.s.now (a.at + 2 * j)) l.counts l.k _ (omega arith) c.u16_in.ensures l.invariant

pub returns : goal.returns
unfolding counts_at
returns c = let a = c.args in
    let l = c.loop-k in
    sym (take_all _ l.counts (omega arith)) ∙ front_end (λ j. u16_at a.s.now (a.at + 2 * j)) l.counts _ l.k (omega arith) l.invariant
