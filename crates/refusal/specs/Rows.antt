-- Document 01, section 2, and from 12 on document 02: the numbers of the refusals.
use Rattle.std.specs.Prelude.{ℕ}
use Rattle.refusal.specs.declared.Refusal.{Refusal}
use Rattle.refusal.specs.declared.Refusal.TheVariants.{Length, Trailer, Start, Past, Kind, Counts, Numbers, ShortVertices, ShortIndices, ShortRecords, PartialVertex, ShortMillimetres}

abbrev pub number_of : Refusal → ℕ
number_of Length = 1
number_of Trailer = 2
number_of Start = 3
number_of Past = 4
number_of Kind = 5
number_of Counts = 6
number_of Numbers = 7
number_of ShortVertices = 8
number_of ShortIndices = 9
number_of ShortRecords = 10
number_of PartialVertex = 11
number_of ShortMillimetres = 12
