use Rattle.shape.specs.Price.{solid_price}
use Rattle.shape_price.proofs.solid.solid_price.Goals as goal

pub returns-in-Box : goal.returns-in-Box
unfolding solid_price
returns-in-Box c = rw (c.in-Box.is, c.less_for.ensures.0, c.less_for-in-Box.ensures.0, c.less_for-in-Box-2.ensures.0)

pub returns-in-Cylinder : goal.returns-in-Cylinder
unfolding solid_price
returns-in-Cylinder c = rw c.in-Cylinder.is c.cylinder_price.ensures

pub returns-in-Unsized : goal.returns-in-Unsized
unfolding solid_price
returns-in-Unsized c = rw c.in-Unsized.is
