-- A slice lent to be written, as an `ensures` names it: what it holds when the function is called, at `.entry`, and when it returns, at `.exit`.
use Rattle.std.specs.Prelude.{List}
use Rattle.std.specs.Borrow.{MutBor}
use denote.Triple.Both.{Both}

abbrev pub Slice : Type 0 → Type 0
Slice A = Both (MutBor (List A)) (MutBor (List A))
