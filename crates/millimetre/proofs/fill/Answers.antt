-- `millimetre::fill` meets its contract: once all stores are made, what is left to store is nothing. Assumes nothing.
use Rattle.std.proofs.Common.{arith, map, ◌∙◌}
use lib.ListN.{length-map}
use lib.Seq.{sets}
use Rattle.lists.proofs.Stores.{sets_over, image_end}
use Rattle.millimetre.specs.Millimetres.{millimetres}
use Rattle.millimetre.proofs.fill.Goals as goal

pub returns : goal.returns
returns c = let g = c.args in
    image_end millimetres g.coordinates.now (sets g.list.now 0 (map millimetres g.coordinates.now)) c.loop-i.i c.loop-i.list c.loop-i-test.false c.loop-i.invariant.1
    ∙ sets_over (map millimetres g.coordinates.now) g.list.now (omega (arith, length-map g.coordinates.now millimetres, c.requires.coordinates_in_bounds))
