-- How many numbers each buffer needs at most for a scene of so many bytes. Definitions only.
use Rattle.std.specs.Prelude.{ℕ, ◌*◌, ◌/◌}
use Rattle.mesh.specs.PerBuffer.{Counts, numbers_for}

-- A record of b bytes has at most 2 b points, 3 b triangles and 2 b log entries. An object has at least 7 bytes of its own and 4 in the trailer.
unfoldable pub objects_most : ℕ → ℕ
objects_most bytes = bytes / 11

unfoldable pub room_for : ℕ → Counts
room_for bytes = numbers_for (2 * bytes) (3 * bytes) (objects_most bytes) (objects_most bytes) (2 * bytes)
