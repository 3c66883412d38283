-- With buffers that are long enough Build answers what Measure does. Assumes nothing.
use mathlib.Core.Path.{◌≡◌, refl, ap}
use mathlib.Core.List.{List}
use Prim.Native.Nat.{ℕ}
use lib.Ieee.{Float}
use Rattle.float.specs.Number.{min_area}
use Rattle.scene.specs.Scene.{Scene, refused, accepted, scene}
use Rattle.mesh.specs.PerBuffer.{Buffers}
use Rattle.mesh.specs.Operations.{output, counts_of, done, measure_scene, measure, build_output, build_scene, build, Room}
use Rattle.mesh.specs.Demand3.{LongEnough}
use Rattle.mesh.proofs.Rooms.{long_enough}

scene_answer : (limit : Float) (x : Scene) (b : Buffers) → LongEnough (counts_of b) (measure_scene limit x).counts → (build_scene limit x b).answer ≡ measure_scene limit x
unfolding measure_scene build_scene build_output done
scene_answer limit (refused f object) b l = refl
scene_answer limit (accepted os) b l =
    let w = output limit os in
    ap (λ (n : Room). (build_output w b n).answer) (long_enough (counts_of b) (counts_of w) l)

pub answers_measured : (bytes : List ℕ) (b : Buffers) → LongEnough (counts_of b) (measure bytes).counts → (build bytes b).answer ≡ measure bytes
unfolding measure build
answers_measured bytes b l = scene_answer min_area (scene bytes) b l
