-- What a test program reads next of its file: a word of four bytes, the lowest first. Assumes nothing.
use Rattle.std.specs.Prelude.{cond, List, ℕ, ltb, Option, None, Some}
use Rattle.scene_field.specs.Fields.{u32_at}

-- of the bytes at the start, of which so many were read
unfoldable pub word_of : List ℕ → ℕ → Option ℕ
word_of bytes n = cond (ltb n 4) None (Some (u32_at bytes 0))
