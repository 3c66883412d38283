-- Document 01, section 9: the starred known shapes, as one list of tests on the definitions.
use Rattle.std.specs.Prelude.{ℕ, suc, ◌*◌, ◌^◌, Bool, false, ◌&&◌, List, [], ◌∷◌, length, eqb, ℤ, pos, negsuc}
use Rattle.std.specs.Float.{fin, binary32}
use Rattle.std.specs.Float.Ieee.{of_bits, to_bits}
use Rattle.lists.specs.Loops.{some, count_of}
use Rattle.float.specs.Number.{zerof, onef, min_area, narrow}
use Rattle.object.specs.Object.{Shape, solid, outline, sweep, round_sweep, Object}
use Rattle.scene.specs.Scene.{scene}
use Rattle.lid.specs.Areas.{outer_term, joined_term, marked_term, left_term}
use Rattle.lid.specs.Log.{is_mark, left_over}
use Rattle.lid.specs.Rings.{rings_from}
use Rattle.shape.specs.Shapes.{flat_of, outline_lid}
use Rattle.validate.specs.Numbers.{validation_numbers}
use Rattle.validate.specs.Validate.{validate}
use Rattle.mesh.specs.Mesh.{mesh_of}
use Rattle.mesh.specs.Operations.{measure, output}
use Rattle.test_samples.specs.Samples.{solid_bytes, solid_at_x, upright, outline_bytes, thin_bytes, scene_bytes, same, objects_in}

-- ---- what is looked at

-- the number of Measure's answer: 0 where the scene is accepted
unfoldable pub refusal_of : List ℕ → ℕ
refusal_of bytes = (measure bytes).number

-- the account of a scene of one object
unfoldable pub account_is : List ℕ → List ℕ → Bool
account_is r numbers = same (output min_area (objects_in (scene (scene_bytes (r ∷ []))))).account numbers

-- Validate on what is built of a scene
unfoldable pub verdict_on : List ℕ → ℕ
verdict_on bytes = let b = output min_area (objects_in (scene bytes)) in (validation_numbers (validate b.vertices b.indices)).verdict

-- Validate on the triangle (0,0,0) (1,0,0) (0,t,0)
unfoldable pub triangle_verdict : ℕ → ℕ
triangle_verdict t =
    (validation_numbers (validate (zerof ∷ zerof ∷ zerof ∷ onef ∷ zerof ∷ zerof ∷ zerof ∷ of_bits binary32 t ∷ zerof ∷ []) (0 ∷ 1 ∷ 2 ∷ []))).verdict

-- n as a multiple of 2 ^ -298
unfoldable pub is_area : ℤ → ℤ → Bool
is_area (pos a) (pos n) = eqb a (n * 2 ^ 298)
is_area (pos a) (negsuc n) = false
is_area (negsuc a) (pos n) = false
is_area (negsuc a) (negsuc n) = eqb (suc a) (suc n * 2 ^ 298)

-- ---- the courtyard: a square of side 4 and height 3 with a hole of side 1

unfoldable pub courtyard : List ℕ
courtyard =
    outline_bytes 4 (upright 0 0 3 ∷ upright 4 0 3 ∷ upright 4 4 3 ∷ upright 0 4 3 ∷ []) ((upright 1 1 3 ∷ upright 1 2 3 ∷ upright 2 2 3 ∷ upright 2 1 3 ∷ []) ∷ [])

-- the ring of ten is cut into 7 ears, and 3 corners are left: 32 - 2 = 22 + 0 + 8
unfoldable pub courtyard_lid : Shape → Bool
courtyard_lid (solid o t x) = false
courtyard_lid (outline closed cs holes) =
    let fs = flat_of cs holes in
    let log = (outline_lid cs holes).log in
    eqb (count_of (is_mark 1) log) 7 && eqb (length (left_over log)) 3 && eqb (count_of (is_mark 2) log) 0
    && is_area (outer_term fs 4) (pos 32) && is_area (joined_term fs (rings_from 4 (4 ∷ [])) log) (negsuc 1)
    && is_area (marked_term fs 1 log) (pos 22) && is_area (marked_term fs 2 log) (pos 0) && is_area (left_term fs log) (pos 8)
courtyard_lid (sweep ss) = false
courtyard_lid (round_sweep ss) = false

unfoldable pub courtyard_mesh : List Object → Bool
courtyard_mesh os = let m = mesh_of min_area os in eqb (length m.vertices) 48 && eqb (length m.indices) 96

-- ---- the tests

unfoldable pub tests : List Bool
tests =
    eqb (refusal_of (0 ∷ 0 ∷ 0 ∷ 0 ∷ [])) 0
    ∷ eqb (verdict_on (0 ∷ 0 ∷ 0 ∷ 0 ∷ [])) 1
    ∷ eqb (refusal_of []) 1
    ∷ account_is (solid_bytes 1 (pos 0 ∷ pos 0 ∷ pos 3 ∷ [])) (8 ∷ 0 ∷ 8 ∷ 0 ∷ [])
    ∷ account_is (solid_bytes 1 (pos 4 ∷ pos 2 ∷ pos 0 ∷ [])) (10 ∷ 2 ∷ 8 ∷ 0 ∷ [])
    ∷ account_is (solid_bytes 2 (pos 1 ∷ pos 2 ∷ [])) (60 ∷ 60 ∷ 0 ∷ 0 ∷ [])
    ∷ account_is (solid_bytes 2 (pos 1 ∷ pos 0 ∷ [])) (46 ∷ 14 ∷ 32 ∷ 0 ∷ [])
    ∷ account_is (solid_bytes 2 (pos 1 ∷ negsuc 1 ∷ [])) (46 ∷ 46 ∷ 0 ∷ 0 ∷ [])
    ∷ account_is courtyard (32 ∷ 32 ∷ 0 ∷ 11 ∷ [])
    ∷ some (λ (o : Object). courtyard_lid o.shape) (objects_in (scene (scene_bytes (courtyard ∷ []))))
    ∷ courtyard_mesh (objects_in (scene (scene_bytes (courtyard ∷ []))))
    ∷ account_is (thin_bytes 5 (upright 0 0 1 ∷ upright 5 0 1 ∷ [])) (6 ∷ 2 ∷ 4 ∷ 0 ∷ [])
    ∷ eqb (refusal_of (scene_bytes (solid_at_x 16777216 ∷ []))) 0
    ∷ eqb (refusal_of (scene_bytes (solid_at_x 16777218 ∷ []))) 7
    ∷ eqb (triangle_verdict 0x358637bd) 0
    ∷ eqb (triangle_verdict 0x358637bc) 4
    ∷ eqb (to_bits binary32 (narrow (fin false 16777219 (negsuc 23)))) (to_bits binary32 (fin false 4194305 (negsuc 21)))
    ∷ []
