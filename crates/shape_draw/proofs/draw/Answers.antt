use Rattle.std.proofs.Common.{arith, refl}
use Rattle.lid.specs.Log.{log_numbers}
use Rattle.lists.specs.Loops.{join}
use Rattle.scene.proofs.HeaderLaws.{solid_in}
use Rattle.scene.specs.declared.headers.Body.TheVariants.{Solid}
use Rattle.scene.specs.Contract.Headers.{shape_of}
use Rattle.shape_outline.proofs.Cleared.{cleared_same, counts_left, drew_object}
use Rattle.shape_outline.proofs.OutlineLaws.{can_place}
use Rattle.shape.specs.Price.{offered}
use Rattle.shape.specs.Shapes.{log_of}
use Rattle.shape.specs.Contract.Stages.{stages_of}
use Rattle.shape_draw.proofs.draw.Goals as goal

pub solid-after-requires : goal.solid-after-requires
solid-after-requires c = let d = rw c.in-Solid.is at c.requires in
    (solid_in _ _ _ d.limits d.inside, record { vertices = omega (arith, d.few); kept = omega arith; thin = omega arith })

pub outline-requires : goal.outline-requires
outline-requires c = let d = rw c.in-Outline.is at c.requires in (can_place _ _ _ _ _ _ _ d, d.few)

pub draw_sections-requires : goal.draw_sections-requires
draw_sections-requires c = let d = rw c.in-Sweep.is at c.requires in (omega (arith, d.inside), d.limits, d.few)

pub returns-in-Solid : goal.returns-in-Solid
unfolding stages_of offered log_of log_numbers join
returns-in-Solid c =
    rw c.in-Solid.is
    (record {
      drew = record { first = c.first_part.ensures; drew = drew_object (shape_of c.args.s.now c.args.i (Solid c.in-Solid.p)) c.args.canvas.now c.solid-after.ensures; offered = c.solid_price.ensures; entries = refl; log = refl };
      counts = counts_left (shape_of c.args.s.now c.args.i (Solid c.in-Solid.p)) c.args.canvas.now c.solid-after.ensures;
      same = cleared_same c.solid-after.ensures.same;
    })

pub returns-in-Outline : goal.returns-in-Outline
returns-in-Outline c = rw c.in-Outline.is (record { drew = c.outline.ensures.drew; counts = c.outline.ensures.counts; same = c.outline.ensures.same })

pub returns-in-Sweep : goal.returns-in-Sweep
returns-in-Sweep c = rw c.in-Sweep.is (record { drew = c.draw_sections.ensures.drew c.args.log.now; counts = c.draw_sections.ensures.counts; same = c.draw_sections.ensures.same })
