-- To compute with this crate's definitions, name `computes` on an `unfolding` line: it stands for all of them, and for the operations of lib.Ieee that they use.
use Rattle.lists.specs.Loops.{loop, first, every, some, fold, list, join, sum_of, count_of, remove_at, over}

unfoldable pub computes : Unit {0}
unfolding loop first every some fold list join sum_of count_of remove_at over
computes = tt
