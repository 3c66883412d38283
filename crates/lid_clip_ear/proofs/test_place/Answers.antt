use Rattle.std.proofs.Common.{◌∙◌}
use Rattle.lid_flat.specs.Flats.{flats_in}
use Rattle.lid_clip_ear.proofs.TestLaws.{order_long, tells, tells_not}
use Rattle.lid_clip_ear.proofs.test_place.Goals as goal

pub test-requires : goal.test-requires
test-requires c = order_long _ _ _ _ c.requires.in_ring_order

pub returns-then-q-turn : goal.returns-then-q-turn
returns-then-q-turn c = let a = c.args in
    c.test.ensures ∙ tells (flats_in a.polygon) a.laid c.requires.in_ring_order a.at.0 a.q _ c.corners_at-corners.ensures c.at-a.ensures c.at-b.ensures c.at-c.ensures _ _ c.turn.ensures c.first_corner.ensures c.if-q-turn.true

pub returns : goal.returns
returns c = let a = c.args in
    tells_not (flats_in a.polygon) a.laid c.requires.in_ring_order a.at.0 a.q (record { corners = c.corners_at-corners.result; a = c.at-a.result; b = c.at-b.result; c = c.at-c.result }) c.corners_at-corners.ensures c.at-a.ensures c.at-b.ensures c.at-c.ensures _ c.turn.ensures c.if-q-turn.false

pub corners_at-corners-requires : goal.corners_at-corners-requires
corners_at-corners-requires c = c.requires.at_in_bounds
