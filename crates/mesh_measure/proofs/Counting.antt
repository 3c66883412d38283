-- A scene counted, by what the checking pass says of it. Assumes nothing.
use mathlib.Core.Path.{◌≡◌, refl, sym, ap, ◌∙◌}
use mathlib.Core.List.{List}
use Prim.Native.Nat.{ℕ}
use lib.Ieee.{Float}
use Rattle.float.specs.Number.{min_area}
use Rattle.std.specs.Prelude.{Ok, Err}
use Rattle.refusal.specs.declared.Refused.{Refused}
use Rattle.scene.specs.Scene.{Scene, refused, accepted, scene}
use Rattle.scene.specs.Contract.Answers.{checked_of, objects_of}
use Rattle.scene.proofs.Walk.{checked_accepted, checked_refused}
use Rattle.mesh.specs.Operations.{refused_with, done, measure_scene, measure}
use Rattle.mesh_answer.specs.declared.Counted.{Counted}
use Rattle.mesh_answer.specs.Answers.{counts_from, accepts}
use Rattle.mesh_bound.specs.declared.Most.{Most}
use Rattle.mesh_bound.specs.declared.Group.TheVariants.{All}
use Rattle.mesh_bound.specs.declared.Counting.{Counting}
use Rattle.mesh_bound.specs.declared.Counting.TheVariants.{Exact, Highest}
use Rattle.mesh_bound.specs.Most.{numbers_of, most_counts, bound_scene, bound}
use Rattle.mesh_bound.specs.Contract.Groups.{in_group, counted_by, bound_in, bound_of_all}
use Rattle.mesh_bound.proofs.Exact.{exact_counts}
use Rattle.mesh_bound_scene.proofs.Counts.{SumOf, objects_count}
use Rattle.mesh_measure.specs.Contract.Counted.{counted_scene}

module _ (limit : Float) (s : List ℕ) (counting : Counting) where
  pub counted_refused : (r : Refused) → Err r ≡ checked_of (scene s) → refused_with r.refusal r.object ≡ counted_scene counting limit (scene s)
  unfolding counted_scene
  counted_refused r h = sym (ap (counted_scene counting limit) (checked_refused (scene s) r h))

  pub counted_accepted : (n : ℕ) {m : Most} (c : Counted) → Ok n ≡ checked_of (scene s) → SumOf limit s All counting m → counts_from c ≡ numbers_of m n
      → accepts c ≡ counted_scene counting limit (scene s)
  unfolding counted_scene
  counted_accepted n c h p k =
      let os = objects_of (scene s) in
      let e = (checked_accepted s n h).is in
      (λ i. record { number = 0; object = 0; counts = (k ∙ λ j. numbers_of (p os e j) (objects_count limit s n h os e j)) i }) ∙ sym (ap (counted_scene counting limit) e)

-- measured, it is Measure
scene_exact : (limit : Float) (x : Scene) → counted_scene Exact limit x ≡ measure_scene limit x
unfolding counted_scene bound_of_all bound_in in_group counted_by measure_scene done
scene_exact limit (refused f object) = refl
scene_exact limit (accepted os) = λ i. record { number = 0; object = 0; counts = exact_counts limit os i }

pub counted_exact : (s : List ℕ) → counted_scene Exact min_area (scene s) ≡ measure s
unfolding measure
counted_exact s = scene_exact min_area (scene s)

-- by the headers, it is the bound, at every limit
scene_highest : (limit : Float) (x : Scene) → counted_scene Highest limit x ≡ bound_scene x
unfolding counted_scene bound_of_all bound_in in_group counted_by bound_scene most_counts
scene_highest limit (refused f object) = refl
scene_highest limit (accepted os) = refl

pub counted_highest : (limit : Float) (s : List ℕ) → counted_scene Highest limit (scene s) ≡ bound s
unfolding bound
counted_highest limit s = scene_highest limit (scene s)
