-- Laws that go over all buffers: which counts fit, and when the buffers have room. A buffer more is a line in each list of this file. Assumes nothing.
use mathlib.Core.Path.{◌≡◌, refl, ap, subst₂}
use mathlib.Core.Bool.{Bool, true, false, ◌||◌, cond}
use Prim.Native.Nat.{ℕ, ◌*◌, ◌≤◌, ◌<◌, ◌^◌, zero-le}
use native.Mathlib.Nat.{le_trans}
use native.Mathlib.Omega.{arith}
use lib.ListN.{length}
use lib.Dec.{ltb}
use borrow.Author.Tests.{le-ltb, ltb-false}
use Rattle.refusal.specs.declared.Refusal.{Refusal}
use Rattle.refusal.specs.declared.Refusal.TheVariants.{ShortVertices, ShortIndices, ShortRecords, ShortMillimetres}
use Rattle.lid.specs.Log.{entry_width}
use Rattle.mesh.specs.Mesh.{span_width, account_width}
use Rattle.std.specs.Prelude.{Ok, Err}
use Rattle.mesh.specs.PerBuffer.{Buffer, PerBuffer, each, at, Counts, numbers_for, Buffers}
use Rattle.mesh.specs.Contract.PerBuffer.{FitCounts}
use Rattle.mesh.specs.PerBuffer.Buffer.{vertices, normals, indices, spans, account, log, millimetres}
use Rattle.mesh.specs.Operations.{no_counts, counts_of, too_short, Room}
use Rattle.mesh.specs.Demand3.{LongEnough}

-- ---- counts

at_each : {T : Buffer → Type 0} (f : (k : Buffer) → T k) (k : Buffer) → at (each f) k ≡ f k
at_each f vertices = refl
at_each f normals = refl
at_each f indices = refl
at_each f spans = refl
at_each f account = refl
at_each f log = refl
at_each f millimetres = refl

-- what so many vertices, triangles, spans, objects and log entries take fits u32
pub numbers_fit : (v t s n e : ℕ) → 3 * v < 2 ^ 32 → 3 * t < 2 ^ 32 → span_width * s < 2 ^ 32 → account_width * n < 2 ^ 32 → entry_width * e < 2 ^ 32
    → FitCounts (numbers_for v t s n e)
numbers_fit v t s n e hv ht hs hn he = record { vertices = hv; normals = hv; indices = ht; spans = hs; account = hn; log = he; millimetres = hv }

-- fewer take no more
pub numbers_within : {v t s n e v' t' s' n' e' : ℕ} → v ≤ v' → t ≤ t' → s ≤ s' → n ≤ n' → e ≤ e' → LongEnough (numbers_for v' t' s' n' e') (numbers_for v t s n e)
numbers_within v t s n e =
    record { vertices = omega arith; normals = omega arith; indices = omega arith; spans = omega arith; account = omega arith; log = omega arith; millimetres = omega arith }

pub longer : {a b c : Counts} → LongEnough a b → LongEnough b c → LongEnough a c
longer p q = each (λ k. le_trans (at q k) (at p k))

pub none_needed : (has : Counts) → LongEnough has no_counts
unfolding no_counts
none_needed has = record { vertices = zero-le; normals = zero-le; indices = zero-le; spans = zero-le; account = zero-le; log = zero-le; millimetres = zero-le }

-- by the lengths of what they hold
pub lengths_fit : (w b : Buffers) → LongEnough (counts_of b) (counts_of w) → (k : Buffer) → length (at w k) ≤ length (at b k)
unfolding counts_of
lengths_fit w b l k = subst₂ (λ (x y : ℕ). x ≤ y) (at_each (λ (k : Buffer). length (at w k)) k) (at_each (λ (k : Buffer). length (at b k)) k) (at l k)

-- ---- room

pub long_enough : (has needs : Counts) → LongEnough has needs → too_short has needs ≡ Ok tt
unfolding too_short
long_enough has needs l =
    let fits : PerBuffer (λ k. ltb (at has k) (at needs k) ≡ false) = each (λ k. le-ltb (at has k) (at needs k) (at l k)) in
    rw (fits.vertices, fits.normals, fits.indices, fits.spans, fits.account, fits.log, fits.millimetres)

abbrev is_enough : Room → Bool
is_enough (Ok tt) = true
is_enough (Err f) = false

no : true ≡ false → ⊥
no q = let z : ◌≡◌ {A = ℕ} 0 1 = cc in omega arith

-- no test was met
enough : (x : Bool) (f : Refusal) (rest : Room) → Ok tt ≡ cond x (Err f) rest → (x ≡ false) × (Ok tt ≡ rest)
enough true f rest e = absurd (no (ap is_enough e))
enough false f rest e = (refl, e)

either_false : (a b : Bool) → (a || b) ≡ false → (a ≡ false) × (b ≡ false)
either_false true b e = absurd (no e)
either_false false b e = (refl, e)

-- each buffer has room for what was found to fit
pub enough_room : (has needs : Counts) → Ok tt ≡ too_short has needs → LongEnough has needs
unfolding too_short
enough_room has needs q =
    let f = enough (ltb has.vertices needs.vertices || ltb has.normals needs.normals) _ _ q in
    let g = enough (ltb has.indices needs.indices) _ _ f.1 in
    let h = enough (ltb has.spans needs.spans || ltb has.account needs.account || ltb has.log needs.log) _ _ g.1 in
    let j = enough (ltb has.millimetres needs.millimetres) _ _ h.1 in
    let v = either_false _ _ f.0 in
    let l = either_false (ltb has.spans needs.spans || ltb has.account needs.account) _ h.0 in
    let m = either_false _ _ l.0 in
    record {
      vertices = ltb-false _ _ v.0;
      normals = ltb-false _ _ v.1;
      indices = ltb-false _ _ g.0;
      spans = ltb-false _ _ m.0;
      account = ltb-false _ _ m.1;
      log = ltb-false _ _ l.1;
      millimetres = ltb-false _ _ j.0;
    }

-- ---- the order of the rows, where no buffer has any room

abbrev needing : ℕ → ℕ → ℕ → ℕ → Counts
needing v i r m = record { vertices = v; normals = v; indices = i; spans = r; account = r; log = r; millimetres = m }

-- the first row is given, whatever else is too short
pub rows_in_order : (i r m : ℕ)
    → (too_short no_counts (needing 1 i r m) ≡ Err ShortVertices) × (too_short no_counts (needing 0 1 r m) ≡ Err ShortIndices)
    × (too_short no_counts (needing 0 0 1 m) ≡ Err ShortRecords) × (too_short no_counts (needing 0 0 0 1) ≡ Err ShortMillimetres)
unfolding too_short no_counts
rows_in_order i r m = (refl, refl, refl, refl)
