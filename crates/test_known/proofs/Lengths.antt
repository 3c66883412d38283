-- Document 01, section 2, row 1 at its upper end, for every list of bytes: no scene of that length is stored, since a program's stack holds 8 MiB. Assumes nothing.
use mathlib.Core.Path.{◌≡◌, refl, ap}
use mathlib.Core.Bool.{or-true}
use mathlib.Core.List.{List}
use Prim.Native.Nat.{ℕ, ◌<◌}
use lib.ListN.{length}
use lib.Dec.{ltb}
use borrow.Author.Tests.{lt-ltb}
use Rattle.float.specs.Number.{min_area}
use Rattle.refusal.specs.declared.Refusal.TheVariants.{Length, Start}
use Rattle.scene.specs.Scene.{Scene, refused, scene, count_at, trailer, records_from}
use Rattle.mesh.specs.PerBuffer.{Buffers}
use Rattle.mesh.specs.Operations.{refused_with, measure, measure_scene, build, build_scene}

over_length : (s : List ℕ) → 16777216 < length s → scene s ≡ refused Length 0
unfolding scene
over_length s h = rw (lt-ltb 16777216 (length s) h) (rw (or-true (ltb (length s) 4)) refl)

-- over 16,777,216 bytes: refused by 1, and no buffer is touched
pub measured_too_long : (s : List ℕ) → 16777216 < length s → measure s ≡ refused_with Length 0
unfolding measure measure_scene
measured_too_long s h = ap (measure_scene min_area) (over_length s h)

pub built_too_long : (s : List ℕ) (b : Buffers) → 16777216 < length s → build s b ≡ record { answer = refused_with Length 0; buffers = b }
unfolding build build_scene
built_too_long s b h = ap (λ (x : Scene). build_scene min_area x b) (over_length s h)

-- 16,777,216 bytes that name no object: not refused by 1, but by 3, since the trailer does not begin at the first byte
pub longest : (s : List ℕ) → length s ≡ 16777216 → count_at s ≡ 0 → measure s ≡ refused_with Start 0
unfolding measure measure_scene scene trailer records_from
longest s h none = rw h (rw none refl)
