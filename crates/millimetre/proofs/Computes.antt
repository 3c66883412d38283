-- To compute with this crate's definitions, name `computes` on an `unfolding` line: it stands for all of them.
use Rattle.millimetre.specs.Millimetres.{millimetres}

unfoldable pub computes : Unit {0}
unfolding millimetres
computes = tt
