-- How a stored scene and the answers of the Rust are written and compared, and the scenes that are refused.
-- A list of n bytes, of n 32-bit words or of n 64-bit words is written as one hexadecimal number, the first one foremost; an f32 is its bits, and so is an i64.
use Rattle.std.specs.Prelude.{ℕ, zero, suc, ◌/◌, ◌%◌, ◌^◌, Bool, ◌&&◌, List, [], ◌∷◌, length, eqb}
use Rattle.float.specs.Number.{zerof}
use Rattle.validate.specs.Numbers.{validation_numbers}
use Rattle.validate.specs.Validate.{validate}
use Rattle.mesh.specs.PerBuffer.{PerBuffer, each, at, Buffers}
use Rattle.mesh.specs.Operations.{Built, build}
use Rattle.test_samples.specs.Samples.{filled, words_of, same_words}

unfoldable pub digits : ℕ → ℕ → ℕ → List ℕ
digits base zero x = []
digits base (suc n) x = x / base ^ n % base ∷ digits base n x

abbrev pub bytes : ℕ → ℕ → List ℕ
bytes n x = digits 256 n x

abbrev pub words : ℕ → ℕ → List ℕ
words n x = digits 4294967296 n x

abbrev pub longs : ℕ → ℕ → List ℕ
longs n x = digits 18446744073709551616 n x

-- a scene; the number and the object of Build's answer; Validate's verdict; and the words of each buffer
pub record Example : Type 0 where
  pub scene : List ℕ
  pub number : ℕ
  pub object : ℕ
  pub verdict : ℕ
  pub words : PerBuffer (λ k. List ℕ)

abbrev pub built_as : List ℕ → ℕ → List ℕ → List ℕ → List ℕ → List ℕ → List ℕ → List ℕ → List ℕ → Example
built_as s v a b c d e f g =
    record { scene = s; number = 0; object = 0; verdict = v; words = record { vertices = a; normals = b; indices = c; spans = d; account = e; log = f; millimetres = g } }

-- refused: nothing is built, and the empty mesh is Empty
abbrev pub refused_as : List ℕ → ℕ → ℕ → Example
refused_as s number object = record { scene = s; number = number; object = object; verdict = 1; words = each (λ k. []) }

-- buffers of the sizes that are expected
unfoldable pub lent_for : Example → Buffers
lent_for e = filled zerof 0 (each (λ k. length (at e.words k)))

unfoldable pub agrees_with : Example → Built → Bool
agrees_with e r =
    eqb r.answer.number e.number && eqb r.answer.object e.object
    && same_words (words_of r.buffers) e.words
    && eqb (validation_numbers (validate r.buffers.vertices r.buffers.indices)).verdict e.verdict

unfoldable pub agrees : Example → Bool
agrees e = agrees_with e (build e.scene (lent_for e))

unfoldable pub refusals : List Example
refusals =
    -- three
    refused_as (bytes 3 0) 1 0
    ∷
    -- length
    refused_as (bytes 4 0x01000000) 2 0
    ∷
    -- objects
    refused_as (bytes 4 0x01000100) 2 0
    ∷
    -- record
    refused_as (bytes 73 0x00010000000000000000000000000000000000000000000000000000000000f03f0000000000000000000000000000f03f0000000000000000000000000000f03f0100000001000000) 3 0
    ∷
    -- second
    refused_as (bytes 26 0x0501000000000005010000000000000000000800000002000000) 3 1
    ∷
    -- trailer
    refused_as (bytes 16 0x05010000000000000000000001000000) 3 1
    ∷
    -- trailer none
    refused_as (bytes 5 0) 3 0
    ∷
    -- head
    refused_as (bytes 12 0x070000000000000001000000) 4 0
    ∷
    -- solid
    refused_as (bytes 72 0x00010000000000000000000000000000000000000000000000000000000000f03f0000000000000000000000000000f03f0000000000000000000000000000f00000000001000000) 4 0
    ∷
    -- hole counts
    refused_as (bytes 17 0x04010000000f2701000000000001000000) 4 0
    ∷
    -- kind
    refused_as (bytes 13 0x07010000000000000001000000) 5 0
    ∷
    -- second
    refused_as (bytes 24 0x050100000000000701000000000000000700000002000000) 5 1
    ∷
    -- holes
    refused_as (bytes 17 0x0401000000040021000000000001000000) 6 0
    ∷
    -- corners
    refused_as (bytes 17 0x0401000000010200000000000001000000) 6 0
    ∷
    -- sections
    refused_as (bytes 15 0x050100000001100000000001000000) 6 0
    ∷
    -- nan
    refused_as (bytes 73 0x00010000000000c07f00000000000000000000000000000000000000000000f03f0000000000000000000000000000f03f0000000000000000000000000000f03f0000000001000000) 7 0
    ∷
    -- infinity
    refused_as (bytes 73 0x000100000000000000000080ff000000000000000000000000000000000000f03f0000000000000000000000000000f03f0000000000000000000000000000f03f0000000001000000) 7 0
    ∷
    -- pair
    refused_as (bytes 73 0x0001000000000000000000000000000000010000000000f03f000000000000f03f0000000000000000000000000000f03f0000000000000000000000000000f03f0000000001000000) 7 0
    ∷
    -- second
    refused_as (bytes 142 0x00010000000000000000000000000000000000000000000000000000000000f03f0000000000000000000000000000f03f0000000000000000000000000000f03f00010000000000000000000000000000000000000000000000000000000000f03f0000000000000000000000000000f03f000000000000000000000000000000c0000000004100000002000000) 7 1
    ∷
    []
