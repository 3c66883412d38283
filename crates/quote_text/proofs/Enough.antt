-- A scene of at most so many bytes comes to no more than the room for them holds. Assumes nothing.
use mathlib.Core.Path.{◌≡◌, refl, sym, subst}
use mathlib.Core.List.{List}
use Prim.Native.Nat.{ℕ, ◌+◌, ◌-◌, ◌*◌, ◌/◌, ◌≤◌}
use native.Mathlib.Omega.{arith}
use lib.ListN.{length}
use Rattle.float.specs.Number.{min_area}
use Rattle.object.specs.Object.{Object}
use Rattle.scene.specs.Scene.{Scene, refused, accepted, scene}
use Rattle.mesh.specs.Operations.{refused_with, output, counts_of, done, measure_scene, measure}
use Rattle.mesh.specs.Demand3.{LongEnough}
use Rattle.mesh.proofs.Comes.{scene_comes}
use Rattle.mesh.proofs.MeshSizes.{output_counts}
use Rattle.mesh.proofs.Rooms.{numbers_within, none_needed}
use Rattle.quote_text.specs.Contract.Room.{objects_most, room_for}

pub few_objects : (s : List ℕ) (os : List Object) (bytes : ℕ) → scene s ≡ accepted os → length s ≤ bytes → length os ≤ objects_most bytes
unfolding objects_most
few_objects s os bytes h l = let c = scene_comes min_area s os h in omega (arith, c.0, c.1.objects)

accepted_enough : (s : List ℕ) (os : List Object) (bytes : ℕ) → scene s ≡ accepted os → length s ≤ bytes → LongEnough (room_for bytes) (counts_of (output min_area os))
unfolding room_for
accepted_enough s os bytes h l =
    let c = (scene_comes min_area s os h).1 in
    let n = few_objects s os bytes h l in
    subst (LongEnough (room_for bytes)) (output_counts min_area os)
    (numbers_within (omega (arith, c.vertices 0 0)) (omega (arith, c.kept)) (omega (arith, c.spans 0 0)) n (omega (arith, c.entries)))

-- Build with this room is refused by no row behind 7, whatever the scene is
pub enough : (s : List ℕ) (bytes : ℕ) → length s ≤ bytes → LongEnough (room_for bytes) (measure s).counts
unfolding measure
enough s bytes l = by (scene s) refl
  where
    by : (t : Scene) → scene s ≡ t → LongEnough (room_for bytes) (measure_scene min_area t).counts
    by (refused r object) h = unfold measure_scene refused_with in none_needed (room_for bytes)
    by (accepted os) h = unfold measure_scene done in accepted_enough s os bytes h l
