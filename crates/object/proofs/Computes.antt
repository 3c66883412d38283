-- To compute with this crate's definitions, name `computes` on an `unfolding` line: it stands for all of them, and for the operations of lib.Ieee that they use.
use lib.Ieee.{neg}
use Rattle.object.specs.Object.{frame}

unfoldable pub computes : Unit {0}
unfolding neg frame
computes = tt
