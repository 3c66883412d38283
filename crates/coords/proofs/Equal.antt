-- `==` of two points, which the derive compares part by part, is `same_point`. Assumes nothing.
use Rattle.std.proofs.Common.{◌≡◌, sym}
use Rattle.std.proofs.Math.Bool.{and_assoc}
use lib.Ieee.{eq}
use Rattle.coords.specs.declared.Point.{Point}
use Rattle.coords.specs.contracts.PointPartialEq.TheImpl.{ghosts}
use Rattle.coords.specs.Coords.{same_point}

pub equal_is_same : (a b : Point) → ghosts.eq a b ≡ same_point a b
unfolding same_point
equal_is_same a b = sym (and_assoc (eq a.x b.x) (eq a.y b.y) (eq a.z b.z))
