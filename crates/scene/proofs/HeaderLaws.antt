-- What the definition of a header gives for the kind that a byte is read as, and of a solid that it tells of. Assumes nothing.
use mathlib.Core.Path.{◌≡◌, sym, ap, ◌∙◌}
use Prim.Native.Nat.{ℕ, ◌+◌, ◌≤◌, ◌<◌}
use native.Mathlib.Omega.{arith}
use mathlib.Core.Bool.{true}
use mathlib.Core.List.{List}
use lib.ListN.{length, get_or}
use Rattle.std.specs.Prelude.{Result, Ok, Err}
use Rattle.std.specs.Result.{result_unwrap_or}
use borrow.Author.Tests.{ne_eqb}
use Rattle.scene.specs.declared.headers.SolidAt.{SolidAt}
use Rattle.scene.specs.declared.headers.Body.TheVariants.{Solid, Sweep}
use Rattle.refusal.specs.declared.Refusal.{Refusal}
use Rattle.scene.specs.declared.kinds.Kind.{Kind}
use Rattle.scene.specs.declared.kinds.Kind.TheVariants.{RoundSweep}
use Rattle.scene_field.specs.Fields.{u16_at, u32_at}
use Rattle.scene.specs.Contract.Headers.{body_at, body_size, header_of, header_at, Limits, SolidIn}
use Rattle.scene.specs.Contract.Kinds.{byte_of, Decodes}

body_other : (s : List ℕ) (i kind : ℕ) → 6 < kind → Sweep true (u16_at s i) ≡ body_at s i kind
unfolding body_at
body_other s i kind h = simp (ne_eqb kind 0 (λ q. omega arith), ne_eqb kind 1 (λ q. omega arith), ne_eqb kind 2 (λ q. omega arith), ne_eqb kind 3 (λ q. omega arith), ne_eqb kind 4 (λ q. omega arith), ne_eqb kind 5 (λ q. omega arith))

-- the body of a record by the kind that its first byte is read as
read_as : (s : List ℕ) (i byte : ℕ) (r : Result Kind Refusal) → Decodes byte r → body_at s i (byte_of (result_unwrap_or r RoundSweep)) ≡ body_at s i byte
unfolding body_at
read_as s i byte (Ok kind) h = ap (body_at s i) h
read_as s i byte (Err f) h = body_other s i byte h.1

pub header_read : (s : List ℕ) (i : ℕ) (r : Result Kind Refusal) (kind : Kind) → Decodes (get_or s i 0) r → result_unwrap_or r RoundSweep ≡ kind → header_of (u32_at s (i + 1)) (body_at s (i + 5) (byte_of kind)) ≡ header_at s i
unfolding header_at
header_read s i r kind h q = ap (λ (k : Kind). header_of (u32_at s (i + 1)) (body_at s (i + 5) (byte_of k))) (sym q) ∙ ap (header_of (u32_at s (i + 1))) (read_as s (i + 5) (get_or s i 0) r h)

pub solid_in : (s : List ℕ) (i : ℕ) (p : SolidAt) → Limits s i (Solid p) → i + body_size (Solid p) ≤ length s → SolidIn s p
solid_in s i p l h = record { position = omega (arith, l.position, l.orientation, l.sizes); orientation = omega (arith, l.position, l.orientation, l.sizes) }
