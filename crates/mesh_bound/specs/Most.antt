-- The most that objects can come to, by the kinds and counts that their records' headers tell, whatever the limit below which a triangle is thin:
-- what `object_mesh_bound` answers. proofs/Bounds shows that it is enough, and proofs/Exact of crate test_known computes that one object of each kind comes
-- to just the most.
use Rattle.std.specs.Prelude.{ℕ, ◌+◌, ◌-◌, ◌*◌, Bool, true, false, cond, List, [], ◌∷◌, length, eqb}
use Rattle.std.specs.Float.Ieee.{lt}
use Rattle.lists.specs.Loops.{sum_of}
use Rattle.float.specs.Number.{zerof}
use Rattle.object.specs.declared.Extent.{Extent}
use Rattle.object.specs.declared.Extent.TheVariants.{Box, Cylinder, Unsized}
use Rattle.object.specs.Object.{Shape, solid, outline, sweep, round_sweep, Object}
use Rattle.scene.specs.Scene.{Scene, refused, accepted, scene}
use Rattle.mesh.specs.PerBuffer.{Counts, numbers_for}
use Rattle.mesh.specs.Operations.{Answer, refused_with}
use Rattle.mesh_bound.specs.declared.Most.{Most}

-- ---- one shape

-- so many vertices, triangles and log entries of one shape: a span only where there is a triangle
abbrev pub of_shape : ℕ → ℕ → ℕ → Most
of_shape v t e = record { vertices = v; triangles = t; spans = cond (eqb t 0) 0 1; entries = e }

unfoldable pub solid_most : Extent → Most
solid_most (Box l w h) = of_shape 24 12 0
solid_most (Cylinder r h) = of_shape (cond (lt zerof h) 96 80) (cond (lt zerof h) 60 46) 0
solid_most Unsized = of_shape 0 0 0

-- An outline of c outer corners and of h holes with k corners. The lid's ring has two places more for each hole, and two triangles fewer than places; the
-- log has an entry for each place and each hole, and at least one.
unfoldable pub outline_most : Bool → ℕ → ℕ → ℕ → Most
outline_most false c k h = of_shape (4 * (c - 1 + k)) (2 * (c - 1 + k)) 0
outline_most true c k h = of_shape (6 * (c + k)) (2 * (c + k) + 2 * (c + k + 2 * h - 2)) (1 + (c + k + 3 * h - 1))

-- a sweep of n sections, or a round one: all pairs of neighbours and two caps, none where there is no section
unfoldable pub sweep_most : Bool → ℕ → Most
sweep_most false n = of_shape (16 * n - 8) (8 * n - 4) 0
sweep_most true n = of_shape (64 * n - 32) (32 * n - 4) 0

unfoldable pub most_of : Shape → Most
most_of (solid o t x) = solid_most x
most_of (outline closed cs holes) = outline_most closed (length cs) (sum_of length holes) (length holes)
most_of (sweep ss) = sweep_most false (length ss)
most_of (round_sweep ss) = sweep_most true (length ss)

-- ---- all objects

abbrev pub nothing : Most
nothing = record { vertices = 0; triangles = 0; spans = 0; entries = 0 }

abbrev pub together : Most → Most → Most
together a b =
    record { vertices = a.vertices + b.vertices; triangles = a.triangles + b.triangles; spans = a.spans + b.spans; entries = a.entries + b.entries }

-- what the objects come to, by what each shape does
unfoldable pub of_all : (Shape → Most) → List Object → Most
of_all f [] = nothing
of_all f (o ∷ os) = together (f o.shape) (of_all f os)

-- the numbers that n objects take in each buffer
abbrev pub numbers_of : Most → ℕ → Counts
numbers_of m n = numbers_for m.vertices m.triangles m.spans n m.entries

unfoldable pub most_counts : List Object → Counts
most_counts os = numbers_of (of_all most_of os) (length os)

-- ---- a scene: refused as Measure refuses it, or the most of its objects

unfoldable pub bound_scene : Scene → Answer
bound_scene (refused f object) = refused_with f object
bound_scene (accepted os) = record { number = 0; object = 0; counts = most_counts os }

unfoldable pub bound : List ℕ → Answer
bound bytes = bound_scene (scene bytes)
