-- Flat corners whose coordinates lie in two lists.
use Rattle.std.specs.Prelude.{List, length, get_or, Float}
use Rattle.lists.specs.Loops.{list}
use Rattle.float.specs.Number.{zerof}
use Rattle.lid.specs.declared.Flat.{Flat}

-- the flat corners whose coordinates two lists hold
unfoldable pub flats : List Float → List Float → List Flat
flats xs ys = list (λ i. record { x = get_or xs i zerof; y = get_or ys i zerof }) (length xs) 0
