-- What the code that cuts a lid writes into the buffers that it is lent, and the count that its limits speak of. Definitions only.
use Rattle.std.specs.Prelude.{ℕ, ◌+◌, ◌*◌, ◌≡◌, List, length}
use Rattle.std.proofs.lemmas.List.Edits.{sets}
use Rattle.lists.specs.Loops.{join, sum_of}
use Rattle.lists.specs.Slices.{Slice}
use Rattle.face_triangle.specs.Triangles.{Triangle}
pub use Rattle.face_triangle.specs.Contract.Triangles.{triangle_record}
use Rattle.lid.specs.declared.LidCounts.{LidCounts}
use Rattle.lid.specs.Log.{Entry, log_numbers, entry_width}
use Rattle.lid.specs.Lid.{Lid}

-- how many corners an outline has, by its counts
abbrev pub corner_total : ℕ → List ℕ → ℕ
corner_total outer counts = outer + sum_of (λ n. n) counts

-- the log with entries written from entry n on, and a buffer of triangles; stores past the end are left out
abbrev pub log_with : List ℕ → ℕ → List Entry → List ℕ
log_with log n es = sets log (entry_width * n) (log_numbers es)

unfoldable pub triangle_numbers : List Triangle → List ℕ
triangle_numbers ts = join triangle_record ts

abbrev pub triangles_with : List ℕ → ℕ → List Triangle → List ℕ
triangles_with s n ts = sets s (3 * n) (triangle_numbers ts)

-- entries stand in the log from entry n on, and triangles in their buffer from the first; their numbers
pub record WritesLid (es : List Entry) (ts : List Triangle) (log log' : List ℕ) (n : ℕ) (triangles triangles' : List ℕ) (r : LidCounts) : Type 0 where
  pub written : log' ≡ log_with log n es
  pub entries : r.entries ≡ n + length es
  pub drawn : triangles' ≡ triangles_with triangles 0 ts
  pub offered : r.triangles ≡ length ts

-- a lid was written into the lent slices: its log from entry n on, its triangles from the first
abbrev pub LidWritten : Lid → Slice ℕ → ℕ → Slice ℕ → LidCounts → Type 0
LidWritten l log n triangles r =
    WritesLid l.log l.triangles log.entry.now log.exit.now n triangles.entry.now triangles.exit.now r
