-- A refused call leaves the buffers as they were: document 01, section 2. Assumes nothing.
use Prim.Native.Nat.{ℕ}
use mathlib.Core.Path.{◌≡◌, refl}
use mathlib.Core.List.{List}
use lib.Ieee.{Float}
use Rattle.float.specs.Number.{min_area}
use Rattle.scene.specs.Scene.{Scene, refused, accepted, scene}
use Rattle.std.specs.Prelude.{Ok, Err}
use Rattle.mesh.specs.PerBuffer.{Buffers}
use Rattle.mesh.specs.Operations.{output, counts_of, done, too_short, build_output, build_scene, build, Room}

room_keeps : (written b : Buffers) (r : Room) → ((build_output written b r).answer.number ≡ 0 → ⊥) → (build_output written b r).buffers ≡ b
unfolding build_output done
room_keeps written b (Ok tt) h = absurd (h refl)
room_keeps written b (Err f) h = refl

scene_keeps : (limit : Float) (s : Scene) (b : Buffers) → ((build_scene limit s b).answer.number ≡ 0 → ⊥) → (build_scene limit s b).buffers ≡ b
unfolding build_scene
scene_keeps limit (refused f object) b h = refl
scene_keeps limit (accepted os) b h = room_keeps (output limit os) b (too_short (counts_of b) (counts_of (output limit os))) h

pub refused_keeps : (bytes : List ℕ) (b : Buffers) → ((build bytes b).answer.number ≡ 0 → ⊥) → (build bytes b).buffers ≡ b
unfolding build
refused_keeps bytes b h = scene_keeps min_area (scene bytes) b h
