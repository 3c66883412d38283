-- Build and Validate on filled buffers, computed for one wall: exact, longer and shorter buffers. Assumes nothing.
use Prim.Native.Nat.{ℕ}
use mathlib.Core.Path.{◌≡◌, refl}
use mathlib.Core.Bool.{Bool, true, ◌&&◌}
use mathlib.Core.List.{List, [], ◌∷◌}
use lib.ListN.{drop}
use lib.Dec.{eqb}
use Rattle.lists.specs.Loops.{every}
use Rattle.float.specs.Number.{onef, min_area}
use Rattle.scene.specs.Scene.{scene}
use Rattle.validate.specs.Numbers.{validation_numbers}
use Rattle.validate.specs.Validate.{validate}
use Rattle.test_samples.specs.Samples.{upright, outline_bytes, scene_bytes, objects_in, same, filled, words_of, same_words}
use Rattle.mesh.specs.PerBuffer.{Buffers, Counts}
use Rattle.mesh.specs.Operations.{build, output}
use Rattle.test_samples.proofs.Computes.{all}

bytes : List ℕ
bytes = scene_bytes (outline_bytes 3 (upright 0 0 3 ∷ upright 4 0 3 ∷ []) [] ∷ [])

counts : ℕ → ℕ → ℕ → ℕ → ℕ → ℕ → ℕ → Counts
counts v n i s a l m = record { vertices = v; normals = n; indices = i; spans = s; account = a; log = l; millimetres = m }

-- buffers of these sizes, which hold ones and sevens
full : Counts → Buffers
full c = filled onef 7 c

equal : Buffers → Buffers → Bool
equal a b = same_words (words_of a) (words_of b)

-- the call is refused with this number, object 0 and zero counts, and the buffers keep their contents
back : ℕ → Counts → Bool
back number c =
    let r = build bytes (full c) in
    eqb r.answer.number number && eqb r.answer.object 0 && eqb r.answer.counts.vertices 0 && equal r.buffers (full c)

pub buffer_tests : List Bool
buffer_tests =
    equal (build bytes (full (counts 12 12 6 5 4 0 12))).buffers (output min_area (objects_in (scene bytes)))
    ∷ same (drop 12 (words_of (build bytes (full (counts 13 12 7 5 6 2 13))).buffers).vertices) (0x3f800000 ∷ [])
    ∷ same (drop 4 (build bytes (full (counts 13 12 7 5 6 2 13))).buffers.account) (7 ∷ 7 ∷ [])
    ∷ same (build bytes (full (counts 13 12 7 5 6 2 13))).buffers.log (7 ∷ 7 ∷ [])
    ∷ same (build bytes (full (counts 13 12 7 5 6 2 13))).buffers.spans (7 ∷ 0 ∷ 4 ∷ 0 ∷ 6 ∷ [])
    ∷ same (words_of (build bytes (full (counts 13 12 7 5 6 2 13))).buffers).millimetres
    (0 ∷ 0 ∷ 0 ∷ 4000 ∷ 0 ∷ 0 ∷ 4000 ∷ 0 ∷ 3000 ∷ 0 ∷ 0 ∷ 3000 ∷ 7 ∷ [])
    ∷ back 8 (counts 11 12 6 5 4 0 12)
    ∷ back 8 (counts 12 11 5 4 3 0 12)
    ∷ back 9 (counts 12 12 5 4 3 0 12)
    ∷ back 10 (counts 12 12 6 4 4 0 12)
    ∷ back 10 (counts 12 12 6 5 3 0 12)
    ∷ back 10 (counts 12 12 6 5 3 0 11)
    ∷ back 12 (counts 12 12 6 5 4 0 11)
    ∷ eqb (validation_numbers (validate (onef ∷ onef ∷ []) [])).refusal 11
    ∷ []

pub lending : every (λ b. b) buffer_tests ≡ true
unfolding all bytes full counts equal back buffer_tests
lending = refl
