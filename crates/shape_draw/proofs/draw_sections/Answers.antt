use Rattle.std.proofs.Common.{arith, refl}
use Rattle.lid.specs.Log.{log_numbers}
use Rattle.lists.specs.Loops.{join}
use Rattle.object.specs.Object.{sweep, round_sweep}
use Rattle.scene.proofs.Parts.{sections_length}
use Rattle.scene_field.specs.Fields.{sections_at}
use Rattle.shape.specs.Shapes.{log_of}
use Rattle.shape.specs.Contract.Stages.{stages_of}
use Rattle.shape_outline.proofs.Cleared.{cleared_same, counts_left, drew_object}
use Rattle.shape_draw.proofs.draw_sections.Goals as goal

pub round_sweep-after-requires : goal.round_sweep-after-requires
round_sweep-after-requires c = let p = c.requires in
    (p.0, record { vertices = omega (arith, p.1, p.2); kept = omega (arith, p.1); thin = omega (arith, p.1) })

pub returns-then-round : goal.returns-then-round
unfolding stages_of log_of log_numbers join
returns-then-round c = let a = c.args in
    let ss = sections_at a.s.now a.n a.at in
    record {
      drew = λ log. rw c.if-round.true (record { first = refl; drew = drew_object (round_sweep ss) a.canvas.now c.round_sweep-after.ensures; offered = c.round_sweep_price.ensures ss (sections_length a.s.now a.n a.at); entries = refl; log = refl });
      counts = counts_left (round_sweep ss) a.canvas.now c.round_sweep-after.ensures;
      same = cleared_same c.round_sweep-after.ensures.same;
    }

pub sweep-after-requires : goal.sweep-after-requires
sweep-after-requires c = let p = c.requires in
    (p.0, record { vertices = omega (arith, p.1, p.2); kept = omega (arith, p.1); thin = omega (arith, p.1) })

pub returns : goal.returns
unfolding stages_of log_of log_numbers join
returns c = let a = c.args in
    record {
      drew = λ log. rw c.if-round.false (record { first = refl; drew = drew_object (sweep (sections_at a.s.now a.n a.at)) a.canvas.now c.sweep-after.ensures; offered = c.sweep_price.ensures; entries = refl; log = refl });
      counts = counts_left (sweep (sections_at a.s.now a.n a.at)) a.canvas.now c.sweep-after.ensures;
      same = cleared_same c.sweep-after.ensures.same;
    }
