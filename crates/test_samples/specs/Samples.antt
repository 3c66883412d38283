-- Scenes as bytes, buffers filled, and lists and buffers compared, for the tests that are computed on the definitions.
use Rattle.std.specs.Prelude.{ℕ, zero, suc, ◌+◌, ◌/◌, ◌%◌, Bool, true, false, ◌&&◌, List, [], ◌∷◌, ◌++◌, map, length, replicate, eqb, ℤ, pos, Float}
use Rattle.std.specs.Int.{w64}
use Rattle.std.proofs.Common.{of_z}
use Rattle.std.specs.Float.{binary32}
use Rattle.std.specs.Float.Ieee.{to_bits, of_int}
use Rattle.lists.specs.Loops.{join}
use Rattle.object.specs.Object.{Object}
use Rattle.scene.specs.Scene.{Scene, refused, accepted}
use Rattle.mesh.specs.PerBuffer.{Buffer, Element, PerBuffer, each, at, Counts, Buffers, lent}
use Rattle.mesh.specs.PerBuffer.Buffer.{vertices, normals, indices, spans, account, log, millimetres}

-- ---- scenes as bytes

-- n bytes, the lowest first
unfoldable pub bytes_of : ℕ → ℕ → List ℕ
bytes_of zero x = []
bytes_of (suc n) x = x % 256 ∷ bytes_of n (x / 256)

-- a whole number as an f32's bytes
unfoldable pub f32_bytes : ℤ → List ℕ
f32_bytes n = bytes_of 4 (to_bits binary32 (of_int binary32 n))

unfoldable pub head : ℕ → ℕ → List ℕ
head kind id = kind ∷ bytes_of 4 id

-- the f64 0 and 1
unfoldable pub one_pair : List ℕ
one_pair = bytes_of 8 0 ++ bytes_of 8 0x3ff0000000000000

-- a solid at position zeros with pairs 0 and 1
unfoldable pub solid_bytes : ℕ → List ℤ → List ℕ
solid_bytes kind sizes =
    head kind 7 ++ replicate 12 0 ++ one_pair ++ one_pair ++ one_pair ++ join f32_bytes sizes

-- an unsized object at (x, 0, 0)
unfoldable pub solid_at_x : ℕ → List ℕ
solid_at_x x = head 0 7 ++ f32_bytes (pos x) ++ replicate 8 0 ++ one_pair ++ one_pair ++ one_pair

-- a corner over (x, y), from 0 up to h
pub record Upright : Type 0 where
  pub x : ℕ
  pub y : ℕ
  pub h : ℕ

abbrev pub upright : ℕ → ℕ → ℕ → Upright
upright x y h = record { x = x; y = y; h = h }

unfoldable pub corner_bytes : Upright → List ℕ
corner_bytes c =
    f32_bytes (pos c.x) ++ f32_bytes (pos c.y) ++ f32_bytes (pos 0) ++ f32_bytes (pos c.x) ++ f32_bytes (pos c.y) ++ f32_bytes (pos c.h)

unfoldable pub outline_bytes : ℕ → List Upright → List (List Upright) → List ℕ
outline_bytes kind outer holes =
    head kind 7 ++ bytes_of 2 (length outer) ++ bytes_of 2 (length holes) ++ join (λ h. bytes_of 2 (length h)) holes ++ join corner_bytes outer ++ join (join corner_bytes) holes

-- a sweep of thin sections
unfoldable pub thin_bytes : ℕ → List Upright → List ℕ
thin_bytes kind cs = head kind 7 ++ bytes_of 2 (length cs) ++ join (λ c. corner_bytes c ++ corner_bytes c) cs

unfoldable pub offsets_from : ℕ → List (List ℕ) → List ℕ
offsets_from at [] = []
offsets_from at (r ∷ rs) = bytes_of 4 at ++ offsets_from (at + length r) rs

unfoldable pub scene_bytes : List (List ℕ) → List ℕ
scene_bytes records = join (λ r. r) records ++ offsets_from 0 records ++ bytes_of 4 (length records)

-- ---- lists compared

unfoldable pub same : List ℕ → List ℕ → Bool
same [] [] = true
same [] (y ∷ ys) = false
same (x ∷ xs) [] = false
same (x ∷ xs) (y ∷ ys) = let rest = same xs ys in eqb x y && rest

unfoldable pub objects_in : Scene → List Object
objects_in (refused r o) = []
objects_in (accepted os) = os

-- ---- buffers filled and compared

-- buffers of these sizes that hold one float and one number
unfoldable pub filled : Float → ℕ → Counts → Buffers
filled x n c =
    lent (replicate c.vertices x) (replicate c.normals x) (replicate c.indices n) (replicate c.spans n) (replicate c.account n) (replicate c.log n)
    (replicate c.millimetres (pos n))

-- what a buffer holds, in words: a float's bits, and an i64's
abbrev pub word : (k : Buffer) → Element k → ℕ
word vertices x = to_bits binary32 x
word normals x = to_bits binary32 x
word indices n = n
word spans n = n
word account n = n
word log n = n
word millimetres z = of_z w64 z

unfoldable pub words_of : Buffers → PerBuffer (λ k. List ℕ)
words_of b = each (λ k. map (word k) (at b k))

unfoldable pub at_all : PerBuffer (λ k. Bool) → Bool
at_all x = x.vertices && x.normals && x.indices && x.spans && x.account && x.log && x.millimetres

unfoldable pub same_words : PerBuffer (λ k. List ℕ) → PerBuffer (λ k. List ℕ) → Bool
same_words a b = at_all (each (λ k. same (at a k) (at b k)))

unfoldable pub same_counts : Counts → Counts → Bool
same_counts a b = at_all (each (λ k. eqb (at a k) (at b k)))
