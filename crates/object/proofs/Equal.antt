-- `==` of two corners compares their bases and their tops. Assumes nothing.
use Rattle.std.proofs.Common.{◌≡◌, ◌&&◌}
use Rattle.coords.specs.Coords.{same_point}
use Rattle.coords.proofs.Equal.{equal_is_same}
use Rattle.object.specs.declared.Corner.{Corner}
use Rattle.object.specs.contracts.CornerPartialEq.TheImpl.{ghosts}

pub equal_corners : (a b : Corner) → ghosts.eq a b ≡ (same_point a.base b.base && same_point a.top b.top)
equal_corners a b = rw (equal_is_same a.base b.base, equal_is_same a.top b.top)
