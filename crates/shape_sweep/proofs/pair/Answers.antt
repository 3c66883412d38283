use Rattle.std.proofs.Common.{lit≤}
use Rattle.face.proofs.Draws.{countable_less}
use Rattle.shape_sweep.proofs.SweepFaces.{quad_countable, widthless_pair, flat_pair, whole_pair}
use Rattle.shape_sweep.proofs.pair.Goals as goal

pub quad-requires : goal.quad-requires
quad-requires c = countable_less c.requires (lit≤ tt) (lit≤ tt)

pub quad-requires-2 : goal.quad-requires-2
quad-requires-2 c = countable_less (quad_countable 12 6 _ _ _ _ _ c.requires c.quad.ensures) (lit≤ tt) (lit≤ tt)

pub quad-requires-3 : goal.quad-requires-3
quad-requires-3 c = countable_less (quad_countable 8 4 _ _ _ _ _ (quad_countable 12 6 _ _ _ _ _ c.requires c.quad.ensures) c.quad-2.ensures) (lit≤ tt) (lit≤ tt)

pub quad-requires-4 : goal.quad-requires-4
quad-requires-4 c = quad_countable 4 2 _ _ _ _ _ (quad_countable 8 4 _ _ _ _ _ (quad_countable 12 6 _ _ _ _ _ c.requires c.quad.ensures) c.quad-2.ensures) c.quad-3.ensures

pub returns-then-is_widthless : goal.returns-then-is_widthless
returns-then-is_widthless c = let a = c.args in widthless_pair a.a a.b c.side_direction-left.ensures c.is_widthless.ensures c.is_widthless-2.ensures c.quad.ensures c.if-is_widthless.true

pub returns-then-is_flat : goal.returns-then-is_flat
returns-then-is_flat c = let a = c.args in flat_pair a.a a.b c.side_direction-left.ensures c.is_widthless.ensures c.is_widthless-2.ensures c.quad.ensures c.if-is_widthless.false c.neg.ensures c.is_flat.ensures c.is_flat-2.ensures c.quad-2.ensures c.quad-3.ensures c.if-is_flat.true

pub returns : goal.returns
returns c = let a = c.args in whole_pair a.a a.b c.side_direction-left.ensures c.is_widthless.ensures c.is_widthless-2.ensures c.quad.ensures c.if-is_widthless.false c.neg.ensures c.is_flat.ensures c.is_flat-2.ensures c.quad-2.ensures c.quad-3.ensures c.if-is_flat.false c.neg-2.ensures c.quad-4.ensures
