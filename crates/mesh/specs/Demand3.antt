-- Demand 3: one statement about every accepted list of objects, of what Build leaves in the buffers and of Validate's verdict on that mesh.
use Rattle.std.specs.Prelude.{ℕ, ◌+◌, ◌-◌, ◌*◌, ◌/◌, ◌≤◌, ◌<◌, ◌≡◌, true, false, cond, List, [], ◌∷◌, map, length, get_or, take, drop, eqb, Float, Ok, Err}
use Rattle.lists.specs.Each.{Each, Pairwise}
use Rattle.lists.specs.Loops.{some, join, sum_of}
use Rattle.float.specs.Number.{min_area, is_finite}
use Rattle.coords.specs.declared.Point.{Point}
use Rattle.coords.specs.Buffers.{vertices_in}
use Rattle.coords.specs.Coords.{origin}
use Rattle.object.specs.Object.{Shape, solid, outline, sweep, round_sweep, Object}
use Rattle.scene.specs.Scene.{scene, accepted}
use Rattle.face.specs.Faces.{Triangle, Face, kept_of}
use Rattle.lid.specs.declared.Flat.{Flat}
use Rattle.lid.specs.Log.{Entry, log_numbers, entries_in, is_mark}
use Rattle.lid.specs.Areas.{AreasAgree}
use Rattle.shape.specs.Price.{offered}
use Rattle.shape.specs.Shapes.{faces_of, log_of, flat_of}
use Rattle.validate.specs.declared.MeshError.TheVariants.{Empty}
use Rattle.validate.specs.Verdict.{Validation}
use Rattle.validate.specs.Validate.{validate_at, validate}
use Rattle.mesh.specs.Mesh.{Span, Account, spans_in, accounts_in, kept_by, thin_by, logs_of}
use Rattle.mesh.specs.PerBuffer.{PerBuffer, each, at, Counts, Buffers}
use Rattle.mesh.specs.Operations.{counts_of, measure, build}

-- ---- the account

pub record AccountHolds (limit : Float) (o : Object) (a : Account) : Type 0 where
  pub priced : a.offered ≡ offered o.shape
  pub kept : a.kept ≡ kept_by limit o.shape
  pub thin : a.thin ≡ thin_by limit o.shape
  pub sum : a.offered ≡ a.kept + a.thin
  pub entries : a.entries ≡ length (log_of o.shape)

-- ---- the spans

-- the three corner positions of each kept triangle of an object, in order
unfoldable pub kept_corners : Float → Shape → List Point
kept_corners limit s =
    join (λ (f : Face). join (λ (t : Triangle). get_or f.points t.a origin ∷ get_or f.points t.b origin ∷ get_or f.points t.c origin ∷ []) (kept_of limit f)) (faces_of s)

-- the indices of a span
unfoldable pub indices_in : List ℕ → Span → List ℕ
indices_in is s = take (s.index_end - s.index_start) (drop s.index_start is)

-- the span of o: exactly its kept triangles, whose indices name vertices of the span
pub record SpanHolds (limit : Float) (vs : List Point) (is : List ℕ) (o : Object) (s : Span) : Type 0 where
  pub id : s.id ≡ o.id
  pub whole : s.index_end ≡ s.index_start + 3 * kept_by limit o.shape
  pub triangles : map (λ i. get_or vs i origin) (indices_in is s) ≡ kept_corners limit o.shape
  pub named : Each (λ i. (s.vertex_start ≤ i) × (i < s.vertex_end)) (indices_in is s)

-- the spans follow the objects that kept a triangle, and no other object has one
pub data SpansFollow (limit : Float) (vs : List Point) (is : List ℕ) : List Object → List Span → Type 0 where
  no_more : SpansFollow limit vs is [] []
  without : {o : Object} {os : List Object} {ss : List Span} → kept_by limit o.shape ≡ 0 → SpansFollow limit vs is os ss → SpansFollow limit vs is (o ∷ os) ss
  with_span : {o : Object} {s : Span} {os : List Object} {ss : List Span} → 0 < kept_by limit o.shape → SpanHolds limit vs is o s → SpansFollow limit vs is os ss → SpansFollow limit vs is (o ∷ os) (s ∷ ss)

-- the spans lie end to end from vertex v and index i to the mesh's ends
abbrev pub EndToEnd : ℕ → ℕ → ℕ → ℕ → List Span → Type 0
EndToEnd vertex_end index_end v i [] = (v ≡ vertex_end) × (i ≡ index_end)
EndToEnd vertex_end index_end v i (s ∷ ss) = (s.vertex_start ≡ v) × (s.index_start ≡ i) × EndToEnd vertex_end index_end s.vertex_end s.index_end ss

-- ---- the areas of each closed outline whose log has no mark 7, by the log as Build left it (document 01, section 6)

-- the flat corners are numbers, so that nothing of them is lost in whole multiples of 2 ^ -149
abbrev pub FlatsKnown : List Flat → Type 0
FlatsKnown fs = Each (λ (f : Flat). (is_finite f.x ≡ true) × (is_finite f.y ≡ true)) fs

-- of an object and its entries
abbrev pub AreasHold : Shape → List Entry → Type 0
AreasHold (solid p t x) log = Unit {0}
AreasHold (outline false cs holes) log = Unit {0}
AreasHold (outline true cs holes) log =
    some (is_mark 7) log ≡ false → FlatsKnown (flat_of cs holes) × AreasAgree (flat_of cs holes) (length cs) (map length holes) log
AreasHold (sweep ss) log = Unit {0}
AreasHold (round_sweep ss) log = Unit {0}

-- an object's entries are as many as its account says, and stand behind those of the objects before it
abbrev pub AreasFollow : List Object → List Account → List Entry → Type 0
AreasFollow [] [] log = log ≡ []
AreasFollow [] (a ∷ accounts) log = ⊥
AreasFollow (o ∷ os) [] log = ⊥
AreasFollow (o ∷ os) (a ∷ accounts) log = AreasHold o.shape (take a.entries log) × AreasFollow os accounts (drop a.entries log)

-- ---- all of it

-- of a list of objects, the measured first numbers of the buffers, and what Validate answers on that mesh
pub record Demand3Of (limit : Float) (os : List Object) (mesh : Buffers) (validation : Validation) : Type 0 where
  pub account : Pairwise (AccountHolds limit) os (accounts_in mesh.account)
  pub log : mesh.log ≡ log_numbers (logs_of os)
  pub spans : SpansFollow limit (vertices_in mesh.vertices) mesh.indices os (spans_in mesh.spans)
  pub end_to_end : EndToEnd (length mesh.vertices / 3) (length mesh.indices) 0 0 (spans_in mesh.spans)
  pub validated : validation ≡ validate_at limit mesh.vertices mesh.indices
  pub verdict : validation ≡ Ok (cond (eqb (sum_of (λ (o : Object). kept_by limit o.shape) os) 0) (Err Empty) (Ok tt))
  pub areas : AreasFollow os (accounts_in mesh.account) (entries_in mesh.log)

-- the first numbers of each buffer, as many as are counted for it
unfoldable pub prefixes : Counts → Buffers → Buffers
prefixes c b = each (λ k. take (at c k) (at b k))

-- each of the seven buffers has room for what is measured
abbrev pub LongEnough : Counts → Counts → Type 0
LongEnough has needs = PerBuffer (λ k. at needs k ≤ at has k)

-- for every accepted scene, with buffers long enough and whatever they held before
abbrev pub Demand3 : Type 0
Demand3 =
    (bytes : List ℕ) (os : List Object) (b : Buffers)
    → scene bytes ≡ accepted os
    → LongEnough (counts_of b) (measure bytes).counts
    → let mesh = prefixes (measure bytes).counts (build bytes b).buffers in Demand3Of min_area os mesh (validate mesh.vertices mesh.indices)
