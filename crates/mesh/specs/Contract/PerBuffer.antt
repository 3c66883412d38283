-- Counts that fit the program's numbers.
use Rattle.std.specs.Prelude.{◌<◌, ◌^◌}
use Rattle.mesh.specs.PerBuffer.{PerBuffer, at, Counts}

-- every count fits u32
abbrev pub FitCounts : Counts → Type 0
FitCounts c = PerBuffer (λ k. at c k < 2 ^ 32)
