-- What the sums over groups of an accepted scene's objects say of all of them. Assumes nothing.
use mathlib.Core.Path.{◌≡◌, sym, ap, ap₂, ◌∙◌, subst}
use mathlib.Core.List.{List}
use Prim.Native.Nat.{ℕ}
use lib.ListN.{length}
use lib.Ieee.{Float}
use Rattle.object.specs.Object.{Object}
use Rattle.std.specs.Prelude.{Ok}
use Rattle.scene.specs.Scene.{Scene, accepted, scene}
use Rattle.scene.specs.Contract.Answers.{checked_of, objects_of}
use Rattle.scene.proofs.Walk.{checked_accepted}
use Rattle.mesh_bound.specs.declared.Most.{Most}
use Rattle.mesh_bound.specs.declared.Group.{Group}
use Rattle.mesh_bound.specs.declared.Group.TheVariants.{All, Lids, Others}
use Rattle.mesh_bound.specs.declared.Counting.{Counting}
use Rattle.mesh_bound.specs.declared.Counting.TheVariants.{Exact, Highest}
use Rattle.mesh_bound.specs.Most.{together, of_all}
use Rattle.mesh_bound.specs.Contract.Groups.{exact_of, in_group, counted_by, bound_in, bound_of_all}
use Rattle.mesh_bound.proofs.Exact.{both_groups}
use Rattle.mesh_bound.proofs.Bounds.{AtMost, most_enough, groups_enough}

module _ (limit : Float) (s : List ℕ) where
  -- the sum over a group of the objects, as `bound_of_all` gives it
  abbrev pub SumOf : Group → Counting → Most → Type 0
  SumOf group counting m = (os : List Object) → scene s ≡ accepted os → m ≡ bound_of_all group counting limit os

  -- what all objects come to, and no less than that
  abbrev pub Measured : Most → Type 0
  Measured m = (os : List Object) → scene s ≡ accepted os → m ≡ of_all (exact_of limit) os

  abbrev pub Suffices : Most → Type 0
  Suffices m = (os : List Object) → scene s ≡ accepted os → AtMost (of_all (exact_of limit) os) m

  pub objects_count : (n : ℕ) → Ok n ≡ checked_of (scene s) → (os : List Object) → scene s ≡ accepted os → n ≡ length os
  objects_count n h os e = sym (checked_accepted s n h).size ∙ ap (λ (t : Scene). length (objects_of t)) e

  pub sum_suffices : {m : Most} → SumOf All Highest m → Suffices m
  unfolding bound_of_all bound_in in_group counted_by
  sum_suffices p = λ os e. subst (AtMost (of_all (exact_of limit) os)) (sym (p os e)) (most_enough limit os)

  module _ {a b : Most} where
    pub sums_suffice : (others lids : Counting) → SumOf Others others a → SumOf Lids lids b → Suffices (together a b)
    sums_suffice others lids p q = λ os e. subst (AtMost (of_all (exact_of limit) os)) (sym (ap₂ together (p os e) (q os e))) (groups_enough limit others lids os)

    pub sums_measured : SumOf Others Exact a → SumOf Lids Exact b → Measured (together a b)
    unfolding bound_of_all bound_in in_group counted_by
    sums_measured p q = λ os e. ap₂ together (p os e) (q os e) ∙ both_groups limit Exact os
