-- `Vector::normalize_or` meets its contract: the test is that of the definition. Assumes nothing.
use Rattle.coords_vector.specs.Vectors.{norm, normalize_or}
use Rattle.coords_vector.proofs.Vector.normalize_or.Goals as goal

pub returns-then-is_finite-len : goal.returns-then-is_finite-len
unfolding norm normalize_or
returns-then-is_finite-len c = rw (← c.dot.ensures, ← c.sqrt-len.ensures, ← c.is_finite.ensures, c.if-is_finite-len.true) c.mul.ensures

pub returns-else-is_finite-len : goal.returns-else-is_finite-len
unfolding norm normalize_or
returns-else-is_finite-len c = rw (← c.dot.ensures, ← c.sqrt-len.ensures, ← c.is_finite.ensures, c.if-is_finite-len.false)
