-- `coords::thin::shorter_than` meets its contract, by the law of `thin_bound`. Assumes nothing.
use Rattle.std.proofs.Common.{T, subst, sym}
use Rattle.coords.proofs.Squares.{thin_norm}
use Rattle.coords.proofs.thin.shorter_than.Goals as goal

pub returns : goal.returns
returns c = rw (c.shorter.ensures, c.thin_bound.ensures, c.dot.ensures) (sym (thin_norm c.args.v c.args.limit (subst T (sym c.well_formed.1.0.1) tt)))
