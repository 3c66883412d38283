-- A canvas on which nothing has been drawn, and a shape's stages drawn on it. Assumes nothing.
use mathlib.Core.Path.{◌≡◌, sym}
use mathlib.Core.List.{List}
use Rattle.object.specs.Object.{Shape}
use Rattle.face.specs.declared.Canvas.{Canvas}
use Rattle.face.specs.declared.Tally.{Tally}
use Rattle.face.specs.Contract.Drawing.{tally, drawing, SameLoans}
use Rattle.shape.specs.Contract.Stages.{stages_of, DrewStages, last_of, DrawsStages}
use Rattle.shape.proofs.Stages.{stages_last}

abbrev pub cleared : Canvas → Canvas
cleared c = record { limit = c.limit; before = c.before; tally = tally 0 0 0; vertices = c.vertices; normals = c.normals; indices = c.indices }

pub cleared_same : {c b : Canvas} → SameLoans (cleared c) b → SameLoans c b
cleared_same p = record { vertices = p.vertices; normals = p.normals; indices = p.indices; limit = p.limit; before = p.before }

pub drew_object : (sh : Shape) (c : Canvas) {b : Canvas} {ts : List Tally} → DrawsStages (stages_of sh) ts (cleared c) b
    → DrewStages c.limit (stages_of sh) c.before (drawing (tally 0 0 0) c.vertices.now c.normals.now c.indices.now) (drawing (last_of ts) b.vertices.now b.normals.now b.indices.now) ts
drew_object sh c p = rw (stages_last c.limit sh p.drew) p.drew

pub counts_left : (sh : Shape) (c : Canvas) {b : Canvas} {ts : List Tally} → DrawsStages (stages_of sh) ts (cleared c) b → b.tally ≡ last_of ts
counts_left sh c p = sym (stages_last c.limit sh p.drew)
