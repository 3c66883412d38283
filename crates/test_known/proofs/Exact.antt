-- The bound is what Measure answers where no triangle is thin, all holes are joined and all lids are wholly cut: computed for one object of each kind. For
-- a sweep in which a section stands twice it is more, and the sum of the objects without lids measured is exact. Assumes nothing.
use Prim.Native.Nat.{ℕ}
use mathlib.Core.Path.{◌≡◌, refl}
use mathlib.Core.Bool.{Bool, true, not}
use mathlib.Core.List.{List, [], ◌∷◌, ◌++◌}
use lib.IntN.{pos}
use Rattle.lists.specs.Loops.{join, every}
use Rattle.float.specs.Number.{min_area}
use Rattle.scene.specs.Scene.{scene}
use Rattle.mesh.specs.Operations.{counts_of, output, measure_scene, measure}
use Rattle.test_samples.specs.Samples.{Upright, upright, bytes_of, head, solid_bytes, corner_bytes, outline_bytes, scene_bytes, objects_in, same_counts}
use Rattle.test_samples.proofs.Computes.{all}
use Rattle.mesh_bound.specs.declared.Group.TheVariants.{Lids, Others}
use Rattle.mesh_bound.specs.declared.Counting.TheVariants.{Exact, Highest}
use Rattle.mesh_bound.specs.Most.{solid_most, outline_most, sweep_most, most_of, together, of_all, numbers_of, most_counts, bound_scene, bound}
use Rattle.mesh_bound.specs.Contract.Groups.{exact_of, has_lid, in_group, counted_by, bound_in, bound_of_all}

-- a square from (a, a) to (b, b)
square : ℕ → ℕ → List Upright
square a b = upright a a 3 ∷ upright b a 3 ∷ upright b b 3 ∷ upright a b 3 ∷ []

-- a sweep of two sections
swept : ℕ → List ℕ
swept kind = head kind 7 ++ bytes_of 2 2 ++ join corner_bytes (upright 0 2 1 ∷ upright 0 0 1 ∷ upright 4 2 1 ∷ upright 4 0 1 ∷ [])

-- the same with its second section standing twice
twice : List ℕ
twice = head 5 7 ++ bytes_of 2 3 ++ join corner_bytes (upright 0 2 1 ∷ upright 0 0 1 ∷ upright 4 2 1 ∷ upright 4 0 1 ∷ upright 4 2 1 ∷ upright 4 0 1 ∷ [])

exact_for : List ℕ → Bool
exact_for bytes = let all = scene_bytes (bytes ∷ []) in same_counts (bound all).counts (measure all).counts

-- with the objects without lids measured
nearer_for : List ℕ → Bool
nearer_for bytes =
    let all = scene_bytes (bytes ∷ []) in
    let os = objects_in (scene all) in
    same_counts (numbers_of (together (bound_of_all Others Exact min_area os) (bound_of_all Lids Highest min_area os)) 1) (measure all).counts

pub exact_tests : List Bool
exact_tests =
    not (exact_for twice)
    ∷ nearer_for twice
    ∷ exact_for (solid_bytes 0 [])
    ∷ exact_for (solid_bytes 1 (pos 4 ∷ pos 2 ∷ pos 1 ∷ []))
    ∷ exact_for (solid_bytes 2 (pos 1 ∷ pos 2 ∷ []))
    ∷ exact_for (outline_bytes 3 (square 0 9) [])
    ∷ exact_for (outline_bytes 4 (square 0 9) (square 2 3 ∷ square 5 7 ∷ []))
    ∷ exact_for (outline_bytes 4 [] [])
    ∷ exact_for (swept 5)
    ∷ exact_for (swept 6)
    ∷ []

pub exact : every (λ b. b) exact_tests ≡ true
unfolding all solid_most outline_most sweep_most most_of of_all most_counts bound_scene bound exact_of has_lid in_group counted_by bound_in bound_of_all square swept twice exact_for nearer_for exact_tests
exact = refl
