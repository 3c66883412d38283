use Rattle.std.proofs.Common.{◌∙◌}
use Rattle.scene.proofs.SceneLaws.{scene_short, scene_long, scene_many, scene_trailer, scene_records}
use Rattle.scene.specs.Scene.{count_at}
use Rattle.scene_check.proofs.check_scene.Goals as goal

pub returns-then-len-lt4 : goal.returns-then-len-lt4
returns-then-len-lt4 c = c.refused.ensures ∙ scene_short c.args.s.now c.if-len-lt4.true

pub returns-then-len-gt-MOST_BYTES : goal.returns-then-len-gt-MOST_BYTES
returns-then-len-gt-MOST_BYTES c = c.refused-then-len-gt-MOST_BYTES.ensures ∙ scene_long c.args.s.now c.if-len-lt4.false c.if-len-gt-MOST_BYTES.true

pub returns-then-most-n : goal.returns-then-most-n
unfolding count_at
returns-then-most-n c = c.refused-then-most-n.ensures ∙ scene_many c.args.s.now c.if-len-lt4.false c.if-len-gt-MOST_BYTES.false c.u32_in-n.result c.u32_in-n.ensures c.if-most-n.true

pub returns-then-len-size : goal.returns-then-len-size
unfolding count_at
returns-then-len-size c = c.refused-then-len-size.ensures ∙ scene_trailer c.args.s.now c.if-len-lt4.false c.if-len-gt-MOST_BYTES.false c.u32_in-n.result c.u32_in-n.ensures c.if-most-n.false c.if-len-size.true

pub returns : goal.returns
unfolding count_at
returns c = c.check_records.ensures ∙ scene_records c.args.s.now c.if-len-lt4.false c.if-len-gt-MOST_BYTES.false c.u32_in-n.result c.u32_in-n.ensures c.if-most-n.false c.if-len-size.false
