-- What drawing the lid and the floor of an outline comes to: the contract of `cap`, with small working arrays and with large ones. Definitions only.
use Rattle.std.specs.Prelude.{◌≡◌, cond, ℕ, ◌+◌, ◌*◌, List, length}
use Rattle.lists.specs.Slices.{Slice}
use Rattle.face.specs.Faces.{Triangle}
use Rattle.face.specs.declared.Canvas.{Canvas}
use Rattle.lid.specs.Contract.Written.{log_with}
use Rattle.shape.specs.Contract.Stages.{PartRun, lid_stages, DrawsTwo}
use Rattle.shape_outline_corners.specs.declared.OutlineAt.{OutlineAt}
use Rattle.shape_outline_corners.specs.Contract.Outlines.{all_in, lid_in}
use Rattle.shape_outline_lid.specs.declared.faces.Capped.{Capped}

-- the lid over the corners of an outline and the floor under them, of these triangles
abbrev pub cap_stages : List ℕ → OutlineAt → List Triangle → List PartRun
cap_stages s o ts = lid_stages (all_in s o) o.lid ts

-- They were drawn on the canvas, which was c and is c', with the counts after the lid in r; with the price of the outline, and its log written from the
-- start of the lent log on.
pub record DrewCap (s : List ℕ) (o : OutlineAt) (c c' : Canvas) (ls ls' : List ℕ) (r : Capped) : Type 0 where
  pub drew : DrawsTwo (cap_stages s o (lid_in s o).triangles) r.lid c c'
  pub offered : r.offered ≡ 2 * o.n + length (lid_in s o).triangles + cond o.high (length (lid_in s o).triangles) 0
  pub entries : r.entries ≡ length (lid_in s o).log
  pub log : ls' ≡ log_with ls 0 (lid_in s o).log

-- the same of the lent log
abbrev pub Caps : List ℕ → OutlineAt → Capped → Canvas → Canvas → Slice ℕ → Type 0
Caps s o r c c' ls = DrewCap s o c c' ls.entry.now ls.exit.now r
