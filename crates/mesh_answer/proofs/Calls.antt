-- Measure and Build by what the checking pass says of the scene, and Validate behind Build: demand 3 of what they leave. Assumes nothing.
use mathlib.Core.Path.{◌≡◌, sym, ap, ap₂, ◌∙◌, subst}
use mathlib.Core.List.{List}
use Prim.Native.Nat.{ℕ, ◌≤◌, zero-le}
use native.Mathlib.Omega.{arith}
use lib.ListN.{length, take, drop, length-append}
use lib.Ieee.{Float}
use Rattle.lists.specs.Loops.{over}
use Rattle.float.specs.Number.{min_area}
use Rattle.object.specs.Object.{Object}
use Rattle.std.specs.Prelude.{Ok, Err}
use Rattle.refusal.specs.declared.Refused.{Refused}
use Rattle.scene.specs.Scene.{Scene, refused, accepted, scene}
use Rattle.scene.specs.Contract.Answers.{checked_of, objects_of}
use Rattle.scene.proofs.Walk.{checked_accepted, checked_refused}
use Rattle.validate.specs.Verdict.{Validation}
use Rattle.validate.specs.Validate.{validate}
use Rattle.mesh.specs.PerBuffer.{Buffers}
use Rattle.mesh.specs.Operations.{Answer, Built, output, no_counts, refused_with, counts_of, done, measure, too_short, overlay, build_output, build_scene, build, Room}
use Rattle.mesh_answer.specs.Answers.{built_with, BuiltAndJudged, judged, build_and_validate}
use Rattle.mesh.specs.Demand3.{LongEnough, prefixes, Demand3Of}
use Rattle.mesh.proofs.Measured.{answers_measured}
use Rattle.mesh.proofs.Demand3.{demand3}

output_fits : (w b : Buffers) (n : Room)
    → ((build_output w b n).answer.counts.vertices ≤ length (build_output w b n).buffers.vertices) × ((build_output w b n).answer.counts.indices ≤ length (build_output w b n).buffers.indices)
unfolding build_output done counts_of overlay refused_with no_counts over
output_fits w b (Ok tt) = (omega (arith, length-append w.vertices (drop (length w.vertices) b.vertices)), omega (arith, length-append w.indices (drop (length w.indices) b.indices)))
output_fits w b (Err f) = (zero-le, zero-le)

module _ (limit : Float) where
  scene_fits : (t : Scene) (b : Buffers)
      → ((build_scene limit t b).answer.counts.vertices ≤ length (build_scene limit t b).buffers.vertices) × ((build_scene limit t b).answer.counts.indices ≤ length (build_scene limit t b).buffers.indices)
  unfolding build_scene refused_with no_counts
  scene_fits (refused r object) b = (zero-le, zero-le)
  scene_fits (accepted os) b = output_fits (output limit os) b (too_short (counts_of b) (counts_of (output limit os)))

  module _ (s : List ℕ) (b : Buffers) where
    pub build_refused : (r : Refused) → Err r ≡ checked_of (scene s) → built_with (Err r) b ≡ build_scene limit (scene s) b
    unfolding build_scene
    build_refused r h = sym (ap (λ (t : Scene). build_scene limit t b) (checked_refused (scene s) r h))

    pub build_accepted : (n : ℕ) (r : Built) → Ok n ≡ checked_of (scene s) → ((os : List Object) → scene s ≡ accepted os → r ≡ build_scene limit (accepted os) b) → r ≡ build_scene limit (scene s) b
    build_accepted n r h k = let q = checked_accepted s n h in k (objects_of (scene s)) q.is ∙ sym (ap (λ (t : Scene). build_scene limit t b) q.is)

-- ---- Validate behind it

-- demand 3 of the mesh that a call counts in the buffers, and of Validate's answer on it
abbrev Holds : List Object → Answer → Buffers → Type 0
Holds os a b = let mesh = prefixes a.counts b in Demand3Of min_area os mesh (validate mesh.vertices mesh.indices)

module _ (s : List ℕ) (b : Buffers) {r : Built} (e : r ≡ build s b) where
  pub vertices_fit : {v : ℕ} → v ≡ r.answer.counts.vertices → v ≤ length r.buffers.vertices
  unfolding build
  vertices_fit h = rw (h, e) (scene_fits min_area (scene s) b).0

  pub indices_fit : {i : ℕ} → i ≡ r.answer.counts.indices → i ≤ length r.buffers.indices
  unfolding build
  indices_fit h = rw (h, e) (scene_fits min_area (scene s) b).1

  module _ (v i : ℕ) (x : Validation) (p : v ≡ r.answer.counts.vertices) (q : i ≡ r.answer.counts.indices)
      (h : x ≡ validate (take v r.buffers.vertices) (take i r.buffers.indices)) where
    validated : x ≡ validate (take r.answer.counts.vertices r.buffers.vertices) (take r.answer.counts.indices r.buffers.indices)
    validated = h ∙ ap₂ (λ (v i : ℕ). validate (take v r.buffers.vertices) (take i r.buffers.indices)) p q

    pub both_are : ◌≡◌ {A = BuiltAndJudged} (record { built = r; validation = x }) (build_and_validate s b)
    unfolding build_and_validate judged
    both_are = (λ j. record { built = r; validation = validated j }) ∙ ap judged e

    pub demand3_built : (os : List Object) → scene s ≡ accepted os → LongEnough (counts_of b) (measure s).counts → Demand3Of min_area os (prefixes r.answer.counts r.buffers) x
    unfolding prefixes
    demand3_built os k l =
        subst (Demand3Of min_area os (prefixes r.answer.counts r.buffers)) (sym validated)
        (subst (λ (r : Built). Holds os r.answer r.buffers) (sym e)
        (subst (λ (a : Answer). Holds os a (build s b).buffers) (sym (answers_measured s b l)) (demand3 s os b k l)))
