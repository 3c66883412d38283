-- The corners of an outline and their points by their places in the scene's bytes. Assumes nothing.
use mathlib.Core.Path.{◌≡◌, refl, ap, ◌∙◌}
use Prim.Native.Nat.{ℕ, zero, suc, ◌+◌, ◌*◌, ◌<◌}
use native.Mathlib.Nat.{zero-add, add-zero}
use native.Mathlib.Omega.{arith}
use mathlib.Core.List.{List, ◌∷◌, map}
use lib.ListN.{length, get_or}
use Rattle.lists.specs.Loops.{list}
use Rattle.lists.proofs.Lists.{length_list, get_d_list, list_same}
use Rattle.coords.specs.Coords.{origin}
use Rattle.object.specs.declared.Corner.{Corner}
use Rattle.scene_field.specs.Fields.{point_at, corner_at, corners_at}
use Rattle.lid_plane.specs.Plane.{tops_of, bases_of}
use Rattle.shape_outline_corners.specs.Contract.Outlines.{points_at}

pub map_list : {A B : Type 0} (g : A → B) (f : ℕ → A) (n k : ℕ) → map g (list f n k) ≡ list (λ i. g (f i)) n k
unfolding list
map_list g f zero k = refl
map_list g f (suc n) k = ap (λ (l : List _). g (f k) ∷ l) (map_list g f n (suc k))

module _ (s : List ℕ) (n at : ℕ) where
  pub points_length : length (points_at s n at) ≡ n
  unfolding points_at
  points_length = length_list (λ k. point_at s (at + 24 * k)) n 0

  pub points_get : (k : ℕ) → k < n → get_or (points_at s n at) k origin ≡ point_at s (at + 24 * k)
  unfolding points_at
  points_get k h = get_d_list (λ k. point_at s (at + 24 * k)) n 0 k origin h ∙ ap (λ (j : ℕ). point_at s (at + 24 * j)) (zero-add k)

  pub points_first : 0 < n → get_or (points_at s n at) 0 origin ≡ point_at s at
  points_first h = points_get 0 h ∙ ap (point_at s) (add-zero at)

  pub bases_points : bases_of (corners_at s n at) ≡ points_at s n at
  unfolding bases_of corners_at points_at corner_at
  bases_points = map_list (λ (c : Corner). c.base) (λ k. corner_at s (at + 24 * k)) n 0

  pub tops_points : tops_of (corners_at s n at) ≡ points_at s n (at + 12)
  unfolding tops_of corners_at points_at corner_at
  tops_points =
      map_list (λ (c : Corner). c.top) (λ k. corner_at s (at + 24 * k)) n 0
      ∙ list_same (λ k. point_at s (at + 24 * k + 12)) (λ k. point_at s (at + 12 + 24 * k)) n 0 0 (λ j. ap (point_at s) (turned j))
    where
      turned : (j : ℕ) → at + 24 * (0 + j) + 12 ≡ at + 12 + 24 * (0 + j)
      turned j = omega arith
