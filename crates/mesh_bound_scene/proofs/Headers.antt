-- What the header of a record tells of its shape: the most that it comes to, and that its bounds are little for the record's bytes. Assumes nothing.
use mathlib.Core.Path.{◌≡◌, sym, ap, ◌∙◌, subst}
use mathlib.Core.Bool.{Bool, true, false}
use mathlib.Core.List.{List}
use Prim.Native.Nat.{ℕ, ◌+◌, ◌-◌, ◌*◌, ◌≤◌, zero-le}
use native.Mathlib.Omega.{arith}
use lib.Dec.{eqb}
use lib.Ieee.{Float, lt}
use Rattle.lists.proofs.Loops.{either}
use Rattle.float.specs.Number.{zerof}
use Rattle.object.specs.declared.Extent.{Extent}
use Rattle.object.specs.declared.Extent.TheVariants.{Box, Cylinder, Unsized}
use Rattle.scene_field.specs.Fields.{counts_at, holes_at}
use Rattle.scene.specs.declared.headers.Body.{Body}
use Rattle.scene.specs.declared.headers.Body.TheVariants.{Solid, Outline, Sweep}
use Rattle.scene.specs.Contract.Headers.{body_size, shape_of, CornersCounted, Limits}
use Rattle.scene.proofs.Parts.{corners_length, holes_size, holes_length, counts_length, sections_length}
use Rattle.lid.proofs.Facts.{total}
use Rattle.shape.proofs.Sizes.{sum_lengths}
use Rattle.mesh_bound.specs.declared.Most.{Most}
use Rattle.mesh_bound.specs.declared.Group.{Group}
use Rattle.mesh_bound.specs.declared.Counting.{Counting}
use Rattle.mesh_bound.specs.declared.Counting.TheVariants.{Exact, Highest}
use Rattle.mesh_bound.specs.Most.{of_shape, solid_most, outline_most, sweep_most, most_of}
use Rattle.mesh_bound.specs.Contract.Groups.{in_group, counted_by, bound_in, Few}
use Rattle.mesh_bound.proofs.Bounds.{most_within}
use Rattle.mesh_bound.proofs.Few.{few_among, few_less}

module _ (s : List ℕ) (i : ℕ) where
  pub most_outline : (closed : Bool) (outer holes corners : ℕ) → CornersCounted s i outer holes corners → outline_most closed outer (corners - outer) holes ≡ most_of (shape_of s i (Outline closed outer holes corners))
  unfolding most_of
  most_outline closed outer holes corners l =
      let counts = counts_at s holes (i + 4) in
      let at = i + 4 + 2 * holes in
      let inner : corners - outer ≡ total counts = omega (arith, l.total) in
      let a = sym (corners_length s outer at) in
      let b = inner ∙ sym (sum_lengths (holes_at s counts (at + 24 * outer)) ∙ ap total (holes_size s counts (at + 24 * outer))) in
      let c = sym (holes_length s counts (at + 24 * outer) ∙ counts_length s holes (i + 4)) in
      λ j. outline_most closed (a j) (b j) (c j)

  pub most_sweep : (round : Bool) (n : ℕ) → sweep_most round n ≡ most_of (shape_of s i (Sweep round n))
  unfolding most_of
  most_sweep true n = ap (sweep_most true) (sym (sections_length s n (i + 2)))
  most_sweep false n = ap (sweep_most false) (sym (sections_length s n (i + 2)))

few_shape : (v t e bytes : ℕ) → v ≤ 2 * bytes → t ≤ 3 * bytes → e ≤ 2 * bytes → Few (of_shape v t e) bytes 1
few_shape v t e bytes a b c = record { vertices = a; triangles = b; spans = either (λ (n : ℕ). n ≤ 1) (eqb t 0) {x = 0} {y = 1} (omega arith) (omega arith); entries = c }

few_outline : (closed : Bool) (c k h : ℕ) → Few (outline_most closed c k h) (5 + (4 + 2 * h + 24 * (c + k))) 1
unfolding outline_most
few_outline true c k h = few_shape _ _ _ _ (omega arith) (omega arith) (omega arith)
few_outline false c k h = few_shape _ _ _ _ (omega arith) (omega arith) (omega arith)

few_sweep : (round : Bool) (n : ℕ) → Few (sweep_most round n) (5 + (2 + 48 * n)) 1
unfolding sweep_most
few_sweep true n = few_shape _ _ _ _ (omega arith) (omega arith) (omega arith)
few_sweep false n = few_shape _ _ _ _ (omega arith) (omega arith) (omega arith)

few_solid : (x : Extent) (bytes : ℕ) → 48 ≤ bytes → Few (solid_most x) bytes 1
unfolding solid_most
few_solid (Box l w h) bytes e = few_shape _ _ _ _ (omega arith) (omega arith) (omega arith)
few_solid (Cylinder r h) bytes e =
    few_shape _ _ _ _ (either (λ (n : ℕ). n ≤ 2 * bytes) (lt zerof h) {x = 96} {y = 80} (omega arith) (omega arith)) (either (λ (n : ℕ). n ≤ 3 * bytes) (lt zerof h) {x = 60} {y = 46} (omega arith) (omega arith)) (omega arith)
few_solid Unsized bytes e = few_shape _ _ _ _ (omega arith) (omega arith) (omega arith)

few_body : (s : List ℕ) (i : ℕ) (body : Body) → Limits s i body → Few (most_of (shape_of s i body)) (5 + body_size body) 1
unfolding most_of
few_body s i (Solid p) l = few_solid p.extent _ (omega (arith, l.orientation, l.sizes))
few_body s i (Outline closed outer holes corners) l =
    subst (λ (m : Most). Few m (5 + body_size (Outline closed outer holes corners)) 1) (most_outline s i closed outer holes corners l)
    (few_among (few_outline closed outer (corners - outer) holes) (omega (arith, l.total)) (omega arith))
few_body s i (Sweep round n) l = subst (λ (m : Most). Few m (5 + body_size (Sweep round n)) 1) (most_sweep s i round n) (few_sweep round n)

few_counted : (limit : Float) (counting : Counting) (s : List ℕ) (i : ℕ) (body : Body) → Limits s i body → Few (counted_by counting limit (shape_of s i body)) (5 + body_size body) 1
unfolding counted_by
few_counted limit Exact s i body l = few_less (most_within limit (shape_of s i body)) (few_body s i body l)
few_counted limit Highest s i body l = few_body s i body l

pub few_bound : (limit : Float) (group : Group) (counting : Counting) (s : List ℕ) (i : ℕ) (body : Body) → Limits s i body → Few (bound_in group counting limit (shape_of s i body)) (5 + body_size body) 1
unfolding bound_in
few_bound limit group counting s i body l =
    either (λ (m : Most). Few m (5 + body_size body) 1) (in_group group (shape_of s i body)) (few_counted limit counting s i body l)
    (record { vertices = zero-le; triangles = zero-le; spans = zero-le; entries = zero-le })
