use Rattle.std.proofs.Common.{arith}
use Rattle.quote_lines.proofs.Writers.{writes_as}
use Rattle.quote_write.proofs.Whole.{refused_quote, accepted_scene, accepted_quote}
use Rattle.quote_write.proofs.put_scene.Goals as goal

pub returns-then-m-ne0 : goal.returns-then-m-ne0
returns-then-m-ne0 c = let w = c.put_refused.ensures in
    (writes_as (refused_quote c.requires.0 c.sum_up-m.ensures c.if-m-ne0.true) w.0, omega (arith, w.1))

pub put_accepted-requires : goal.put_accepted-requires
put_accepted-requires c = let p = c.requires in
    let u = c.sum_up-m.ensures in
    let is = accepted_scene p.0 u c.if-m-ne0.false in
    (is, u.up _ is, p.0, p.1)

pub returns-else-m-ne0 : goal.returns-else-m-ne0
returns-else-m-ne0 c = let w = c.put_accepted.ensures in
    (writes_as (accepted_quote c.requires.0 c.sum_up-m.ensures c.if-m-ne0.false) w.0, w.1)
