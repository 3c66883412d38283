-- Which triangles of a face of four points are thin does not turn on the direction that is outward, nor on what was written. Assumes nothing.
use mathlib.Core.Path.{◌≡◌, refl, sym, ap, ◌∙◌}
use mathlib.Core.Bool.{Bool, true, false, cond}
use Prim.Native.Nat.{ℕ, ◌+◌}
use native.Mathlib.Nat.{zero-add, add-zero}
use mathlib.Core.List.{List, [], ◌∷◌}
use lib.Ieee.{Float, lt}
use mir.Val.{bool_byte}
use Rattle.lists.specs.Loops.{fold}
use Rattle.float.specs.Number.{zerof}
use Rattle.coords.specs.declared.Point.{Point}
use Rattle.coords.specs.Coords.{diff, no_area}
use Rattle.coords_vector.specs.declared.Vector.{Vector}
use Rattle.coords_vector.specs.Vectors.{dot, cross, norm}
use Rattle.face_judge.specs.declared.Side.TheVariants.{Thin, Front, Back}
use Rattle.face_judge.specs.declared.Sum.{Sum}
use Rattle.face_triangle.specs.Triangles.{triangle}
use Rattle.face_judge.specs.Contract.Offered.{side_of, side_in, gathered, no_sum, offer_one, offer_all}

module _ (limit : Float) (out : Vector) where
  gathered_thin : (a b c : Point) (s : Sum) → (gathered (side_of limit out a b c) s).thin ≡ s.thin + bool_byte (no_area limit a b c)
  unfolding side_of gathered no_area
  gathered_thin a b c s = let n = cross (diff b a) (diff c a) in go (lt (norm n) limit) (lt (dot n out) zerof) n
    where
      go : (t u : Bool) (n : Vector) → (gathered (cond t Thin (cond u (Back n) (Front n))) s).thin ≡ s.thin + bool_byte t
      go true u n = refl
      go false true n = sym (add-zero s.thin)
      go false false n = sym (add-zero s.thin)

  pub two_thin : (a b c d : Point) (base n : ℕ) (is : List ℕ)
      → bool_byte (no_area limit a b c) + bool_byte (no_area limit a c d) ≡ (offer_all limit (a ∷ b ∷ c ∷ d ∷ []) out base n is (triangle 0 1 2 ∷ triangle 0 2 3 ∷ [])).sum.thin
  unfolding offer_all fold offer_one side_in
  two_thin a b c d base n is =
      let x = bool_byte (no_area limit a b c) in
      let y = bool_byte (no_area limit a c d) in
      sym (gathered_thin a c d (gathered (side_of limit out a b c) no_sum) ∙ ap (λ (k : ℕ). k + y) (gathered_thin a b c no_sum ∙ zero-add x))
