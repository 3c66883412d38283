-- What Build plans by the lengths of the lent buffers, and what it answers and leaves. Assumes nothing.
use mathlib.Core.Path.{◌≡◌, refl, sym, ap, ap₂, ◌∙◌, subst}
use mathlib.Core.List.{List, map}
use Prim.Native.Nat.{ℕ, ◌≤◌}
use native.Mathlib.Nat.{lt_of_le_of_lt}
use native.Mathlib.Omega.{arith}
use lib.ListN.{length, take, length-map}
use lib.Seq.{length-sets}
use lib.IntN.{ℤ}
use lib.Ieee.{Float}
use Rattle.lists.specs.Each.{Each}
use Rattle.lists.specs.Loops.{over}
use Rattle.lists.proofs.Buffers.{over_front}
use Rattle.lists.proofs.Stores.{sets_over}
use Rattle.millimetre.specs.Millimetres.{millimetres}
use Rattle.millimetre.specs.Contract.Reach.{InReach}
use Rattle.object.specs.Object.{Object}
use Rattle.std.specs.Prelude.{Ok, Err}
use Rattle.refusal.specs.declared.Refusal.{Refusal}
use Rattle.refusal.specs.declared.Refused.{Refused}
use Rattle.scene.specs.Scene.{Scene, accepted, scene}
use Rattle.scene.specs.Contract.Answers.{checked_of, objects_of}
use Rattle.scene.proofs.Walk.{checked_accepted}
use Rattle.scene.proofs.Accepted.{accepted_near}
use Rattle.mesh.specs.PerBuffer.{each, at, Counts, Buffers, lent}
use Rattle.mesh.specs.Contract.PerBuffer.{FitCounts}
use Rattle.mesh.specs.Operations.{output, counts_of, done, too_short, overlay, refused_build, build_output, build_scene}
use Rattle.mesh_answer.specs.declared.Counted.{Counted}
use Rattle.mesh_answer.specs.Answers.{built_with}
use Rattle.mesh_answer.proofs.Calls.{build_refused, build_accepted}
use Rattle.mesh_progress.specs.Contract.Pass.{drawn_into, beginning, CanAddAll}
use Rattle.mesh_progress.specs.Contract.Wrote.{stored, WroteAll, WroteScene}
use Rattle.mesh_progress.proofs.Pass.Objects.{counts_fit}
use Rattle.mesh.specs.Demand3.{LongEnough}
use Rattle.mesh.proofs.Rooms.{longer, long_enough, enough_room}
use Rattle.mesh.proofs.Vertices.{output_millimetres, output_in_reach}
use Rattle.mesh_bound.specs.declared.Most.{Most}
use Rattle.mesh_bound.specs.Most.{numbers_of}
use Rattle.mesh_bound.proofs.Exact.{exact_counts}
use Rattle.mesh_bound.proofs.Bounds.{enough_written}
use Rattle.mesh_bound_scene.proofs.Counts.{Measured, Suffices, objects_count}
use Rattle.mesh_build.specs.Contract.Plan.{Plan, PlanBy, PlanHolds}

-- what fits u32, and no more than that
fewer : {a b : Counts} → FitCounts a → LongEnough a b → FitCounts b
fewer f p = each (λ k. lt_of_le_of_lt (at p k) (at f k))

-- ---- all objects drawn into buffers with room for them, and the millimetres of the vertices filled behind that

module _ (limit : Float) (os : List Object) {c : Counted} {vs ns : List Float} {is ss accounts ls : List ℕ} (ms : List ℤ) {vs' ns' : List Float} {is' ss' accounts' ls' : List ℕ}
    (w : WroteAll limit os c (drawn_into vs ns is ss accounts ls) (drawn_into vs' ns' is' ss' accounts' ls'))
    (l : LongEnough (counts_of (lent vs ns is ss accounts ls ms)) (counts_of (output limit os))) where
  abbrev all : Buffers
  all = output limit os

  count_is : c.vertices ≡ length all.vertices
  unfolding counts_of
  count_is = ap (λ (k : Counts). k.vertices) w.counts

  vertices_over : vs' ≡ over all.vertices vs
  unfolding counts_of stored
  vertices_over = ap (λ (b : Buffers). b.vertices) w.buffers ∙ sets_over all.vertices vs l.vertices

  vertices_are : take c.vertices vs' ≡ all.vertices
  vertices_are = over_front c.vertices vs' vs all.vertices count_is vertices_over

  vertices_inside : c.vertices ≤ length vs'
  unfolding counts_of stored
  vertices_inside =
      let kept : length vs' ≡ length vs = ap (λ (b : Buffers). length b.vertices) w.buffers ∙ length-sets vs 0 all.vertices in
      omega (arith, count_is, l.vertices)

  list_long : length (take c.vertices vs') ≤ length ms
  unfolding counts_of
  list_long =
      subst (λ (xs : List Float). length xs ≤ length ms) (sym vertices_are)
      (omega (arith, l.millimetres, ap length (output_millimetres limit os), length-map all.vertices millimetres))

  built_whole : {ms' : List ℤ} → ms' ≡ over (map millimetres (take c.vertices vs')) ms
      → built_with (Ok c) (lent vs' ns' is' ss' accounts' ls' ms') ≡ build_scene limit (accepted os) (lent vs ns is ss accounts ls ms)
  unfolding build_scene build_output counts_of done stored overlay
  built_whole h =
      let b = lent vs ns is ss accounts ls ms in
      (λ i. record {
        answer = record { number = 0; object = 0; counts = w.counts i };
        buffers = record {
          vertices = vertices_over i;
          normals = (ap (λ (x : Buffers). x.normals) w.buffers ∙ sets_over all.normals ns l.normals) i;
          indices = (ap (λ (x : Buffers). x.indices) w.buffers ∙ sets_over all.indices is l.indices) i;
          spans = (ap (λ (x : Buffers). x.spans) w.buffers ∙ sets_over all.spans ss l.spans) i;
          account = (ap (λ (x : Buffers). x.account) w.buffers ∙ sets_over all.account accounts l.account) i;
          log = (ap (λ (x : Buffers). x.log) w.buffers ∙ sets_over all.log ls l.log) i;
          millimetres = (h ∙ ap (λ (xs : List Float). over (map millimetres xs) ms) vertices_are ∙ ap (λ (x : List ℤ). over x ms) (sym (output_millimetres limit os))) i;
        };
      })
      ∙ ap (build_output all b) (sym (long_enough (counts_of b) (counts_of all) l))

-- ---- the plan by counts

module _ (has : Counts) (n : ℕ) {counted needs : Counts} (e : counted ≡ needs) where
  pub plan_complete : FitCounts needs → Ok tt ≡ too_short has counted → PlanBy has needs n (Ok n)
  plan_complete f q = (refl, subst (LongEnough has) e (enough_room has counted q), f)

  pub plan_short : (f : Refusal) → Err f ≡ too_short has counted → PlanBy has needs n (Err (record { refusal = f; object = 0 }))
  unfolding build_output
  plan_short f q = λ w b. ap (build_output w b) (q ∙ ap (too_short has) e)

-- ---- the plan for a scene

module _ (limit : Float) (s : List ℕ) (has : Counts) where
  pub plan_refused : (r : Refused) → Err r ≡ checked_of (scene s) → PlanHolds limit s has (Err r)
  plan_refused r h = λ b e. build_refused limit s b r h

  module _ (n : ℕ) (h : Ok n ≡ checked_of (scene s)) {m : Most} where
    -- with room for what suffices
    pub plan_bounded : Suffices limit s m → {r : Plan} {k : ℕ} → r ≡ Ok k → PlanBy has (numbers_of m n) n r → PlanHolds limit s has (Ok n)
    plan_bounded p is d =
        let x = subst (PlanBy has (numbers_of m n) n) is d in
        (h, λ os e. let enough = rw (← objects_count limit s n h os e) at (enough_written limit os (p os e)) in (longer x.1 enough, fewer x.2 enough))

    measured_counts : Measured limit s m → (os : List Object) → scene s ≡ accepted os → numbers_of m n ≡ counts_of (output limit os)
    measured_counts p os e = (λ i. numbers_of (p os e i) (objects_count limit s n h os e i)) ∙ exact_counts limit os

    -- with all measured
    pub plan_exact : Measured limit s m → (r : Plan) → PlanBy has (numbers_of m n) n r → PlanHolds limit s has r
    unfolding build_scene
    plan_exact p (Err x) d =
        λ lent f. build_accepted limit s lent n (refused_build x.refusal x.object lent) h (λ os e. d (output limit os) lent ∙ ap₂ (λ (x y : Counts). build_output (output limit os) lent (too_short x y)) (sym f) (measured_counts p os e))
    plan_exact p (Ok k) d =
        (subst (λ (m : ℕ). Ok m ≡ checked_of (scene s)) (sym d.0) h, λ os e. (subst (LongEnough has) (measured_counts p os e) d.1, subst FitCounts (measured_counts p os e) d.2))

  -- the planned objects fit the program's counts
  pub can_write : (n : ℕ) → PlanHolds limit s has (Ok n) → CanAddAll limit s beginning
  can_write n p = λ os b e. counts_fit limit os b (p.1 os e).1

-- ---- Build behind a plan to write n objects

module _ (limit : Float) (s : List ℕ) (n : ℕ) {c : Counted} (vs ns : List Float) (is ss accounts ls : List ℕ) (ms : List ℤ) {vs' ns' : List Float} {is' ss' accounts' ls' : List ℕ}
    (p : PlanHolds limit s (counts_of (lent vs ns is ss accounts ls ms)) (Ok n))
    (k : WroteScene limit s c (drawn_into vs ns is ss accounts ls) (drawn_into vs' ns' is' ss' accounts' ls')) where
  abbrev objects : List Object
  objects = objects_of (scene s)

  is_accepted : scene s ≡ accepted objects
  is_accepted = (checked_accepted s n p.0).is

  wrote : WroteAll limit objects c (drawn_into vs ns is ss accounts ls) (drawn_into vs' ns' is' ss' accounts' ls')
  wrote = k objects is_accepted

  room_is : LongEnough (counts_of (lent vs ns is ss accounts ls ms)) (counts_of (output limit objects))
  room_is = (p.1 objects is_accepted).0

  pub planned_inside : c.vertices ≤ length vs'
  planned_inside = vertices_inside limit objects ms wrote room_is

  pub planned_long : length (take c.vertices vs') ≤ length ms
  planned_long = list_long limit objects ms wrote room_is

  pub planned_reach : Each InReach (take c.vertices vs')
  planned_reach = subst (Each InReach) (sym (vertices_are limit objects ms wrote room_is)) (output_in_reach limit objects (accepted_near s objects is_accepted))

  pub planned_built : {ms' : List ℤ} → ms' ≡ over (map millimetres (take c.vertices vs')) ms
      → built_with (Ok c) (lent vs' ns' is' ss' accounts' ls' ms') ≡ build_scene limit (scene s) (lent vs ns is ss accounts ls ms)
  planned_built h = built_whole limit objects ms wrote room_is h ∙ sym (ap (λ (t : Scene). build_scene limit t (lent vs ns is ss accounts ls ms)) is_accepted)
