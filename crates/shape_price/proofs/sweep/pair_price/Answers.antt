use Rattle.std.proofs.Common.{ap₂, arith, sym, ◌&&◌, ◌∙◌}
use Rattle.shape.specs.Price.{pair_price}
use Rattle.shape_price.proofs.sweep.pair_price.Goals as goal

pub returns-then-is_widthless : goal.returns-then-is_widthless
unfolding pair_price
returns-then-is_widthless c = let e = sym (ap₂ ◌&&◌ c.is_widthless.ensures c.is_widthless-2.ensures) ∙ c.if-is_widthless.true in (rw e, omega arith)

pub returns-then-is_flat : goal.returns-then-is_flat
unfolding pair_price
returns-then-is_flat c = let e = sym (ap₂ ◌&&◌ c.is_widthless.ensures c.is_widthless-2.ensures) ∙ c.if-is_widthless.false in let f = sym (ap₂ ◌&&◌ c.is_flat.ensures c.is_flat-2.ensures) ∙ c.if-is_flat.true in (rw (e, f), omega arith)

pub returns : goal.returns
unfolding pair_price
returns c = let e = sym (ap₂ ◌&&◌ c.is_widthless.ensures c.is_widthless-2.ensures) ∙ c.if-is_widthless.false in let f = sym (ap₂ ◌&&◌ c.is_flat.ensures c.is_flat-2.ensures) ∙ c.if-is_flat.false in (rw (e, f), omega arith)
