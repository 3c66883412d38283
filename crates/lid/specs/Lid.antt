-- Document 01, section 6: the lid as a whole, its triangles and its log, and T.
use Rattle.std.specs.Prelude.{ℕ, ◌+◌, ◌&&◌, cond, List, [], ◌∷◌, ◌++◌, map, length, get_or, eqb}
use Rattle.std.specs.Float.Ieee.{lt}
use Rattle.lists.specs.Loops.{list, count_of}
use Rattle.float.specs.Number.{zerof}
use Rattle.face_triangle.specs.Triangles.{Triangle, triangle}
use Rattle.lid.specs.declared.Flat.{Flat}
use Rattle.lid.specs.Log.{Entry, entry, is_mark, left_over, Logged}
use Rattle.lid.specs.Rings.{turn_of, too_small, turn_outer, rings_from, holes_from, skipped_from, in_order}
use Rattle.lid.specs.Bridges.{join_all}
use Rattle.lid.specs.Clipping.{clip_ring}

pub record Lid : Type 0 where
  pub log : List Entry
  pub triangles : List Triangle

-- the entries marked 1 as triangles
unfoldable pub ears_of : List Entry → List Triangle
ears_of [] = []
ears_of (e ∷ es) = let more = ears_of es in cond (eqb e.mark 1) (triangle e.a e.b e.c ∷ more) more

-- three corners left whose turn is above 0 are a triangle too
unfoldable pub last_triangle : List Flat → List ℕ → List Triangle
last_triangle fs ring =
    cond (eqb (length ring) 3 && lt zerof (turn_of fs (get_or ring 0 0) (get_or ring 1 0) (get_or ring 2 0))) (triangle (get_or ring 0 0) (get_or ring 1 0) (get_or ring 2 0) ∷ []) []

-- the entries of skipped holes, of the joining of the others and of the clipping, and the corners left
unfoldable pub lid_from : List Flat → List Entry → Logged → Lid
lid_from fs skipped j =
    let k = clip_ring fs j.ring in
    record { log = skipped ++ j.log ++ k.log ++ map (λ a. entry 3 a 0 0) k.ring; triangles = ears_of k.log ++ last_triangle fs k.ring }

unfoldable pub lid_rings : List Flat → List ℕ → List (List ℕ) → Lid
lid_rings fs outer holes =
    let l = lid_from fs (skipped_from fs 0 holes) (join_all fs (in_order fs (holes_from fs 0 holes)) (turn_outer fs outer)) in
    cond (too_small fs outer) (record { log = entry 7 0 0 0 ∷ []; triangles = [] }) l

-- the lid of an outline's flat corners, c outer ones and then those of the holes
unfoldable pub lid_of : List Flat → ℕ → List ℕ → Lid
lid_of fs c holes = lid_rings fs (list (λ i. i) c 0) (rings_from c holes)

-- ---- T of section 6, by the log alone

-- one more triangle where three corners are left whose turn, rounded as the Rust rounds it, is above 0
unfoldable pub one_more : List Flat → List ℕ → ℕ
one_more fs ring = cond (eqb (length ring) 3 && lt zerof (turn_of fs (get_or ring 0 0) (get_or ring 1 0) (get_or ring 2 0))) 1 0

-- T: the entries marked 1, and that one
unfoldable pub lid_price : List Flat → List Entry → ℕ
lid_price fs log = count_of (is_mark 1) log + one_more fs (left_over log)
