-- Every refusal has a number above 0, of at most two digits. Assumes nothing.
use Prim.Native.Nat.{◌≤◌, ◌<◌}
use native.Mathlib.Omega.{arith}
use Rattle.refusal.specs.declared.Refusal.{Refusal}
use Rattle.refusal.specs.declared.Refusal.TheVariants.{Length, Trailer, Start, Past, Kind, Counts, Numbers, ShortVertices, ShortIndices, ShortRecords, PartialVertex, ShortMillimetres}
use Rattle.refusal.specs.Rows.{number_of}

pub number_range : (r : Refusal) → (1 ≤ number_of r) × (number_of r < 100)
number_range Length = (omega arith, omega arith)
number_range Trailer = (omega arith, omega arith)
number_range Start = (omega arith, omega arith)
number_range Past = (omega arith, omega arith)
number_range Kind = (omega arith, omega arith)
number_range Counts = (omega arith, omega arith)
number_range Numbers = (omega arith, omega arith)
number_range ShortVertices = (omega arith, omega arith)
number_range ShortIndices = (omega arith, omega arith)
number_range ShortRecords = (omega arith, omega arith)
number_range PartialVertex = (omega arith, omega arith)
number_range ShortMillimetres = (omega arith, omega arith)
