use Rattle.std.proofs.Common.{Bool, List, Result, false, inl, inr, true, ℕ, ◌≡◌, ◌⊎◌}
use Rattle.object.specs.declared.Section.{Section}
use Rattle.object.specs.Object.{Shape, sweep, round_sweep}
use Rattle.object.specs.declared.Extent.TheVariants.{Unsized as NoExtent}
use Rattle.refusal.specs.declared.Refusal.{Refusal}
use Rattle.scene.specs.Contract.Answers.{end_of}
use Rattle.scene.specs.Contract.Kinds.{byte_of}
use Rattle.scene.specs.declared.kinds.Kind.{Kind}
use Rattle.scene.specs.declared.kinds.Kind.TheVariants.{OpenOutline, ClosedOutline, Sweep, RoundSweep}
use Rattle.scene_field.specs.Layout.{sizes_from}
use Rattle.scene_field.specs.Fields.{box_at, cylinder_at}
use Rattle.scene.specs.Scene.{outline_at, sweep_at, kind_at}
use Rattle.scene_check.proofs.record.Records.check_kind.Goals as goal

pub returns-in-Unsized : goal.returns-in-Unsized
unfolding kind_at
returns-in-Unsized c = let a = c.args in
    λ id. rw (c.in-Unsized.is) (c.check_solid.ensures id NoExtent)

pub returns-in-Box : goal.returns-in-Box
unfolding kind_at
returns-in-Box c = let a = c.args in
    λ id. rw (c.in-Box.is) (c.check_solid-in-Box.ensures id (box_at a.self.bytes.now (sizes_from a.i)))

pub returns-in-Cylinder : goal.returns-in-Cylinder
unfolding kind_at
returns-in-Cylinder c = let a = c.args in
    λ id. rw (c.in-Cylinder.is) (c.check_solid-in-Cylinder.ensures id (cylinder_at a.self.bytes.now (sizes_from a.i)))

module _ (s : List ℕ) (e id i : ℕ) (k : Kind) {r : Result ℕ Refusal} where
  outlines : (k ≡ OpenOutline) ⊎ (k ≡ ClosedOutline) → ((closed : Bool) → r ≡ end_of (outline_at s e id closed i)) → r ≡ end_of (kind_at s e id i (byte_of k))
  unfolding kind_at
  outlines (inl p) f = rw p (f false)
  outlines (inr p) f = rw p (f true)

  sweeps : (k ≡ Sweep) ⊎ (k ≡ RoundSweep) → ((shape : List Section → Shape) → r ≡ end_of (sweep_at s e id shape i)) → r ≡ end_of (kind_at s e id i (byte_of k))
  unfolding kind_at
  sweeps (inl p) f = rw p (f sweep)
  sweeps (inr p) f = rw p (f round_sweep)

pub returns-in-OpenOutline : goal.returns-in-OpenOutline
returns-in-OpenOutline c = let a = c.args in
    λ id. outlines a.self.bytes.now a.self.end id a.i a.kind c.in-OpenOutline.is (c.check_outline.ensures id)

pub returns-in-Sweep : goal.returns-in-Sweep
returns-in-Sweep c = let a = c.args in
    λ id. sweeps a.self.bytes.now a.self.end id a.i a.kind c.in-Sweep.is (c.check_sweep.ensures id)
