-- Document 01, sections 2 (row 11) and 7: what Validate answers, in numbers. The refusal of section 2, and 0 where there is none; the object named, 0; the
-- verdict, in the order of the Rust's cases; the index that names no vertex; the place, which is the vertex or the triangle; and the count of vertices. What
-- a case does not have is 0.
use Rattle.std.specs.Prelude.{ℕ, Ok, Err}
use Rattle.refusal.specs.Rows.{number_of}
use Rattle.validate.specs.declared.Judgement.{Judgement}
use Rattle.validate.specs.declared.MeshError.TheVariants.{Empty, NonFiniteVertex, IndexOutOfRange, DegenerateTriangle}
use Rattle.validate.specs.Verdict.{Verdict, Validation}

abbrev pub judgement : ℕ → ℕ → ℕ → ℕ → ℕ → Judgement
judgement refusal verdict index place count = record { refusal = refusal; object = 0; verdict = verdict; index = index; place = place; count = count }

unfoldable pub verdict_numbers : Verdict → Judgement
verdict_numbers (Ok tt) = judgement 0 0 0 0 0
verdict_numbers (Err Empty) = judgement 0 1 0 0 0
verdict_numbers (Err (NonFiniteVertex i)) = judgement 0 2 0 i 0
verdict_numbers (Err (IndexOutOfRange t i n)) = judgement 0 3 i t n
verdict_numbers (Err (DegenerateTriangle t)) = judgement 0 4 0 t 0

unfoldable pub validation_numbers : Validation → Judgement
validation_numbers (Ok v) = verdict_numbers v
validation_numbers (Err f) = judgement (number_of f) 0 0 0 0
