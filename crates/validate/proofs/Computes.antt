-- To compute with this crate's definitions, name `computes` on an `unfolding` line. Assumes nothing.
use Rattle.validate.specs.Numbers.{verdict_numbers, validation_numbers}
use Rattle.validate.specs.Validate.{degenerate, triangles_from, verdict_at, verdict, validate_at, validate}
use Rattle.validate.specs.Contract.Validate.{verdict_on_triangle, or_later}

unfoldable pub computes : Unit {0}
unfolding verdict_numbers validation_numbers degenerate verdict_on_triangle triangles_from or_later verdict_at verdict validate_at validate
computes = tt
