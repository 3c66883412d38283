-- Bridges that antt computes: document 01's square with its hole, and a hole beside the square, whose ray meets nothing. Assumes nothing.
use mathlib.Core.Path.{◌≡◌, refl}
use mathlib.Core.List.{List, [], ◌∷◌}
use lib.Ieee.{Float, binary32, of_bits}
use Rattle.lists.proofs.Computes.{computes as lists-computes}
use Rattle.float.specs.Number.{zerof, onef, twof}
use Rattle.float.proofs.Computes.{computes as float-computes}
use Rattle.lid.specs.declared.Flat.{Flat}
use Rattle.lid.specs.Log.{entry}
use Rattle.lid.specs.Bridges.{bridge, bridge_entry}
use Rattle.lid.proofs.Computes.{computes}

abbrev fourf : Float
fourf = of_bits binary32 0x40800000

abbrev eightf : Float
eightf = of_bits binary32 0x41000000

abbrev at : Float → Float → Flat
at x y = record { x = x; y = y }

-- corners 4 to 7 are the hole's, corners 8 to 10 those of the hole beside
abbrev corners : List Flat
corners = at zerof zerof ∷ at fourf zerof ∷ at fourf fourf ∷ at zerof fourf ∷ at onef onef ∷ at onef twof ∷ at twof twof ∷ at twof onef ∷ at eightf onef ∷ at eightf twof ∷ at fourf twof ∷ []

-- the ray from the last of the hole's rightmost corners meets the square's right edge, whose far end it sees
pub joined : bridge_entry 0 (bridge corners (0 ∷ 1 ∷ 2 ∷ 3 ∷ []) (4 ∷ 5 ∷ 6 ∷ 7 ∷ [])) ≡ entry 4 0 2 3
unfolding lists-computes float-computes computes
joined = refl

pub unjoined : bridge_entry 1 (bridge corners (0 ∷ 1 ∷ 2 ∷ 3 ∷ []) (8 ∷ 9 ∷ 10 ∷ [])) ≡ entry 5 1 0 0
unfolding lists-computes float-computes computes
unjoined = refl
