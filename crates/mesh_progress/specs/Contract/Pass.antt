-- The pass over the records of a scene: what it has written and counted, one object behind the other. Definitions only.
use Rattle.std.specs.Prelude.{◌≡◌, ℕ, ◌+◌, ◌*◌, ◌≤◌, ◌<◌, ◌^◌, cond, List, [], ◌∷◌, length, leb, eqb, Float}
use Rattle.std.proofs.lemmas.List.Edits.{sets}
use Rattle.lists.specs.Loops.{sum_of}
use Rattle.lists.specs.Slices.{Slice}
use Rattle.coords.specs.Buffers.{vertex_numbers, normal_numbers}
use Rattle.object.specs.Object.{Shape, Object}
use Rattle.scene_field.specs.Layout.{most_bytes}
use Rattle.scene.specs.Scene.{scene, accepted}
use Rattle.scene.specs.Contract.Headers.{header_at, object_of, Limits}
use Rattle.face.specs.declared.Tally.{Tally}
use Rattle.face.specs.Faces.{write_faces}
use Rattle.face.specs.Contract.Drawing.{tally}
use Rattle.lid.specs.Log.{entry_width, log_numbers}
use Rattle.shape.specs.declared.Drawn.{Drawn}
use Rattle.shape.specs.Contract.Stages.{last_of}
use Rattle.shape.specs.Price.{offered}
use Rattle.shape.specs.Shapes.{faces_of, log_of}
use Rattle.mesh_progress.specs.declared.Progress.{Progress}
use Rattle.mesh_progress.specs.declared.Starts.{Starts}
use Rattle.mesh.specs.Mesh.{Span, kept_by, thin_by, account_of, piece_of, span_of, mesh_from, accounts_of, logs_of}
use Rattle.mesh.specs.PerBuffer.{each, at, Counts, numbers_for, Buffers, lent}
use Rattle.mesh.specs.Contract.PerBuffer.{FitCounts}
use Rattle.mesh.specs.Operations.{written}

-- the buffers that objects are drawn into, in the order of a call: all but the millimetres, which are filled behind the pass and count as without room here
abbrev pub drawn_into : List Float → List Float → List ℕ → List ℕ → List ℕ → List ℕ → Buffers
drawn_into vs ns is ss accounts ls = lent vs ns is ss accounts ls []

-- as the pass is lent them, when it is called and when it returns
abbrev pub drawn_entering : Slice Float → Slice Float → Slice ℕ → Slice ℕ → Slice ℕ → Slice ℕ → Buffers
drawn_entering vs ns is ss accounts ls = drawn_into vs.entry.now ns.entry.now is.entry.now ss.entry.now accounts.entry.now ls.entry.now

abbrev pub drawn_leaving : Slice Float → Slice Float → Slice ℕ → Slice ℕ → Slice ℕ → Slice ℕ → Buffers
drawn_leaving vs ns is ss accounts ls = drawn_into vs.exit.now ns.exit.now is.exit.now ss.exit.now accounts.exit.now ls.exit.now

-- before the first object
abbrev pub beginning : Progress
beginning = record { at = 0; objects = 0; vertices = 0; kept = 0; spans = 0; entries = 0 }

-- place n in a buffer of len numbers, or its end where n is past it
unfoldable pub clamped : ℕ → ℕ → ℕ
clamped len n = cond (leb n len) n len

-- the next object's places in buffers of these lengths, within each
pub record StartsIn (v n i l : ℕ) (p : Progress) (a : Starts) : Type 0 where
  pub vertices : (a.vertices ≡ clamped v (3 * p.vertices)) × (a.vertices ≤ v)
  pub normals : (a.normals ≡ clamped n (3 * p.vertices)) × (a.normals ≤ n)
  pub indices : (a.indices ≡ clamped i (3 * p.kept)) × (a.indices ≤ i)
  pub log : (a.log ≡ clamped l (entry_width * p.entries)) × (a.log ≤ l)

-- ---- one object, by what drawing it came to

-- its span: none where nothing was kept
unfoldable pub span_by : ℕ → Progress → Tally → List Span
span_by id p t =
    cond (eqb t.kept 0) [] (record { id = id; vertex_start = p.vertices; vertex_end = p.vertices + t.vertices; index_start = 3 * p.kept; index_end = 3 * (p.kept + t.kept) } ∷ [])

-- what drawing it came to, all stages together
pub record Came : Type 0 where
  pub tally : Tally
  pub offered : ℕ
  pub entries : ℕ

abbrev pub came_to : Drawn → Came
came_to d = record { tally = last_of d.after; offered = d.offered; entries = d.entries }

abbrev pub account_by : Came → List ℕ
account_by d = d.offered ∷ d.tally.kept ∷ d.tally.thin ∷ d.entries ∷ []

abbrev pub spans_more : ℕ → ℕ
spans_more kept = cond (eqb kept 0) 0 1

-- behind a record of so many bytes
abbrev pub advanced : Progress → ℕ → Came → Progress
advanced p size d =
    record { at = p.at + size; objects = p.objects + 1; vertices = p.vertices + d.tally.vertices; kept = p.kept + d.tally.kept; spans = p.spans + spans_more d.tally.kept; entries = p.entries + d.entries }

-- all of that fits the program's numbers
pub record CanAdvance (p : Progress) (size : ℕ) (d : Came) : Type 0 where
  pub at : p.at + size < 2 ^ 64
  pub objects : p.objects + 1 < 2 ^ 32
  pub vertices : p.vertices + d.tally.vertices < 2 ^ 32
  pub kept : 3 * (p.kept + d.tally.kept) < 2 ^ 32
  pub spans : p.spans + 1 < 2 ^ 32
  pub entries : p.entries + d.entries < 2 ^ 32

-- what drawing a shape comes to, v vertices standing before it
unfoldable pub drawn_of : Float → ℕ → Shape → Came
drawn_of limit v sh =
    record { tally = tally (length (write_faces limit v (faces_of sh)).vertices) (kept_by limit sh) (thin_by limit sh); offered = offered sh; entries = length (log_of sh) }

-- a shape drawn behind what the buffers hold
pub record DrewBehind (limit : Float) (sh : Shape) (p : Progress) (d : Came) (vs ns : List Float) (is ls : List ℕ) (vs' ns' : List Float) (is' ls' : List ℕ) : Type 0 where
  pub drawn : d ≡ drawn_of limit p.vertices sh
  pub vertices : vs' ≡ sets vs (3 * p.vertices) (vertex_numbers (write_faces limit p.vertices (faces_of sh)).vertices)
  pub normals : ns' ≡ sets ns (3 * p.vertices) (normal_numbers (write_faces limit p.vertices (faces_of sh)).normals)
  pub indices : is' ≡ sets is (3 * p.kept) (write_faces limit p.vertices (faces_of sh)).indices
  pub log : ls' ≡ sets ls (entry_width * p.entries) (log_numbers (log_of sh))

-- ---- the pass

-- what has been counted, and the buffers
pub record Pass : Type 0 where
  pub objects : ℕ
  pub vertices : ℕ
  pub kept : ℕ
  pub spans : ℕ
  pub entries : ℕ
  pub buffers : Buffers

abbrev pub pass_of : Progress → Buffers → Pass
pass_of p b = record { objects = p.objects; vertices = p.vertices; kept = p.kept; spans = p.spans; entries = p.entries; buffers = b }

abbrev pub begun : Buffers → Pass
begun b = record { objects = 0; vertices = 0; kept = 0; spans = 0; entries = 0; buffers = b }

-- the numbers that the counted objects take in each buffer
abbrev pub passed_by : Pass → Counts
passed_by st = numbers_for st.vertices st.kept st.spans st.objects st.entries

-- what is written stands in each buffer behind what has been counted; a store past a buffer's end is left out
abbrev pub stored_behind : Pass → Buffers → Buffers
stored_behind st w = let from = passed_by st in each (λ k. sets (at st.buffers k) (at from k) (at w k))

-- one object more
unfoldable pub with_object : Float → Object → Pass → Pass
with_object limit o st =
    let piece = piece_of limit st.vertices o in
    let spans = span_of o.id st.vertices (3 * st.kept) piece in
    record {
      objects = st.objects + 1;
      vertices = st.vertices + length piece.vertices;
      kept = st.kept + kept_by limit o.shape;
      spans = st.spans + length spans;
      entries = st.entries + length (log_of o.shape);
      buffers = stored_behind st (written (record { vertices = piece.vertices; normals = piece.normals; indices = piece.indices; spans = spans }) (account_of limit o ∷ []) (log_of o.shape));
    }

-- all that are left
unfoldable pub with_objects : Float → List Object → Pass → Pass
with_objects limit os st =
    let m = mesh_from limit st.vertices (3 * st.kept) os in
    record {
      objects = st.objects + length os;
      vertices = st.vertices + length m.vertices;
      kept = st.kept + sum_of (λ (o : Object). kept_by limit o.shape) os;
      spans = st.spans + length m.spans;
      entries = st.entries + length (logs_of os);
      buffers = stored_behind st (written m (accounts_of limit os) (logs_of os));
    }

-- what the counted objects take in each buffer fits the program's counts
abbrev pub Fits : Pass → Type 0
Fits st = FitCounts (passed_by st)

-- the next record is one of an accepted scene, and its object fits behind those before it
pub record CanAdd (limit : Float) (s : List ℕ) (p : Progress) : Type 0 where
  pub limits : Limits s (p.at + 5) (header_at s p.at).body
  pub inside : p.at + (header_at s p.at).size ≤ length s
  pub short : length s ≤ most_bytes
  pub fits : (b : Buffers) → Fits (with_object limit (object_of s p.at (header_at s p.at)) (pass_of p b))

-- the object of the next record, added
pub record AddedObject (limit : Float) (s : List ℕ) (p p' : Progress) (b b' : Buffers) : Type 0 where
  pub next : p'.at ≡ p.at + (header_at s p.at).size
  pub pass : pass_of p' b' ≡ with_object limit (object_of s p.at (header_at s p.at)) (pass_of p b)

-- the objects of a scene fit behind those before it
abbrev pub CanAddAll : Float → List ℕ → Progress → Type 0
CanAddAll limit s p = (os : List Object) (b : Buffers) → scene s ≡ accepted os → Fits (with_objects limit os (pass_of p b))

-- all objects of a list, added behind those before it
pub record AddedAll (limit : Float) (os : List Object) (p p' : Progress) (b b' : Buffers) : Type 0 where
  pub pass : pass_of p' b' ≡ with_objects limit os (pass_of p b)

-- those of a scene, where it is accepted
abbrev pub AddedScene : Float → List ℕ → Progress → Progress → Buffers → Buffers → Type 0
AddedScene limit s p p' b b' = (os : List Object) → scene s ≡ accepted os → AddedAll limit os p p' b b'
