-- What drawing one object comes to, from its record's place in the scene's bytes: the contract of `draw`. Definitions only.
use Rattle.std.specs.Prelude.{◌≡◌, ℕ, ◌+◌, ◌*◌, ◌≤◌, ◌<◌, ◌^◌, List, length, Float}
use Rattle.std.proofs.lemmas.List.Edits.{sets}
use Rattle.lists.specs.Slices.{Slice}
use Rattle.object.specs.Object.{Shape}
use Rattle.scene_field.specs.Layout.{most_bytes}
use Rattle.scene.specs.declared.headers.Body.{Body}
use Rattle.scene.specs.Contract.Headers.{body_size, Limits}
use Rattle.face.specs.declared.Canvas.{Canvas}
use Rattle.face.specs.Contract.Drawing.{tally, drawing, SameLoans}
use Rattle.lid.specs.Log.{log_numbers}
use Rattle.shape.specs.declared.Drawn.{Drawn}
use Rattle.shape.specs.Shapes.{log_of}
use Rattle.shape.specs.Contract.Stages.{stages_of, first_part, DrewStages, last_of}
use Rattle.shape.specs.Price.{offered}

-- The body at place i, behind its record's kind and id, is one of an accepted scene, and no more vertices lie before it than a count of their numbers can tell.
pub record CanDraw (s : List ℕ) (i : ℕ) (body : Body) (before : ℕ) : Type 0 where
  pub limits : Limits s i body
  pub inside : i + body_size body ≤ length s
  pub short : length s ≤ most_bytes
  pub few : 3 * before < 2 ^ 32

-- The shape drawn from the start of the lent buffers, its log written from the start of the lent log. A store past a buffer's end is left out.
pub record DrewObject (limit : Float) (sh : Shape) (before : ℕ) (vs ns : List Float) (is ls : List ℕ) (r : Drawn) (vs' ns' : List Float) (is' ls' : List ℕ) : Type 0 where
  pub first : r.first ≡ first_part sh
  pub drew : DrewStages limit (stages_of sh) before (drawing (tally 0 0 0) vs ns is) (drawing (last_of r.after) vs' ns' is') r.after
  pub offered : r.offered ≡ offered sh
  pub entries : r.entries ≡ length (log_of sh)
  pub log : ls' ≡ sets ls 0 (log_numbers (log_of sh))

-- the same on the canvas, which was c and is c' with the counts after the last stage, with the lent log
pub record DrawsObject (sh : Shape) (r : Drawn) (c c' : Canvas) (ls : Slice ℕ) : Type 0 where
  pub drew : DrewObject c.limit sh c.before c.vertices.now c.normals.now c.indices.now ls.entry.now r c'.vertices.now c'.normals.now c'.indices.now ls.exit.now
  pub counts : c'.tally ≡ last_of r.after
  pub same : SameLoans c c'

-- of a shape without a log, where none is lent: it holds of any
pub record DrawsUnlogged (sh : Shape) (r : Drawn) (c c' : Canvas) : Type 0 where
  pub drew : (ls : List ℕ) → DrewObject c.limit sh c.before c.vertices.now c.normals.now c.indices.now ls r c'.vertices.now c'.normals.now c'.indices.now ls
  pub counts : c'.tally ≡ last_of r.after
  pub same : SameLoans c c'
