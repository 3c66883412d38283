-- One thing for each of the seven lent buffers, in the order of a call. A buffer more is a line in each list of this file.
use Rattle.std.specs.Prelude.{ℕ, ◌*◌, List, ℤ, Float}
use Rattle.lists.specs.Slices.{Slice}
use Rattle.lid.specs.Log.{entry_width}
use Rattle.mesh.specs.Mesh.{span_width, account_width}

pub data Buffer : Type 0 where
  vertices : Buffer
  normals : Buffer
  indices : Buffer
  spans : Buffer
  account : Buffer
  log : Buffer
  millimetres : Buffer

-- what a buffer holds
abbrev pub Element : Buffer → Type 0
Element vertices = Float
Element normals = Float
Element indices = ℕ
Element spans = ℕ
Element account = ℕ
Element log = ℕ
Element millimetres = ℤ

pub record PerBuffer (T : Buffer → Type 0) : Type 0 where
  pub vertices : T vertices
  pub normals : T normals
  pub indices : T indices
  pub spans : T spans
  pub account : T account
  pub log : T log
  pub millimetres : T millimetres

-- what it is at one buffer
abbrev pub at : {T : Buffer → Type 0} → PerBuffer T → (k : Buffer) → T k
at x vertices = x.vertices
at x normals = x.normals
at x indices = x.indices
at x spans = x.spans
at x account = x.account
at x log = x.log
at x millimetres = x.millimetres

-- made of what it is at each
abbrev pub each : {T : Buffer → Type 0} → ((k : Buffer) → T k) → PerBuffer T
each f = record { vertices = f vertices; normals = f normals; indices = f indices; spans = f spans; account = f account; log = f log; millimetres = f millimetres }

-- how many numbers each buffer holds or gets
abbrev pub Counts : Type 0
Counts = PerBuffer (λ k. ℕ)

-- the numbers that so many vertices, triangles, spans, objects and log entries take in each buffer
abbrev pub numbers_for : ℕ → ℕ → ℕ → ℕ → ℕ → Counts
numbers_for v t s n e = record { vertices = 3 * v; normals = 3 * v; indices = 3 * t; spans = span_width * s; account = account_width * n; log = entry_width * e; millimetres = 3 * v }

-- what each buffer holds
abbrev pub Buffers : Type 0
Buffers = PerBuffer (λ k. List (Element k))

-- ---- the lent buffers, in the order of a call

abbrev pub lent : List Float → List Float → List ℕ → List ℕ → List ℕ → List ℕ → List ℤ → Buffers
lent vs ns is ss accounts ls ms = record { vertices = vs; normals = ns; indices = is; spans = ss; account = accounts; log = ls; millimetres = ms }

-- what the slices hold when the function is called and when it returns
abbrev pub entering : Slice Float → Slice Float → Slice ℕ → Slice ℕ → Slice ℕ → Slice ℕ → Slice ℤ → Buffers
entering vs ns is ss accounts ls ms = lent vs.entry.now ns.entry.now is.entry.now ss.entry.now accounts.entry.now ls.entry.now ms.entry.now

abbrev pub leaving : Slice Float → Slice Float → Slice ℕ → Slice ℕ → Slice ℕ → Slice ℕ → Slice ℤ → Buffers
leaving vs ns is ss accounts ls ms = lent vs.exit.now ns.exit.now is.exit.now ss.exit.now accounts.exit.now ls.exit.now ms.exit.now
