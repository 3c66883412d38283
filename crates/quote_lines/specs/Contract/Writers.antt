-- What is written to a writer. Definitions only.
use Rattle.std.specs.Prelude.{◌≡◌, ℕ, ◌+◌, ◌≤◌, List, length}
use Rattle.decimal.specs.Contract.Texts.{Wrote}
use Rattle.quote_lines.specs.declared.Writer.{Writer}

-- there is room for so many bytes more
abbrev pub RoomFor : Writer → ℕ → Type 0
RoomFor w n = w.at + n ≤ length w.text.now

-- the bytes stand where the writer was, which is behind them now, in the same lent text
pub record Writes (old : Writer) (bytes : List ℕ) (new : Writer) : Type 0 where
  pub wrote : Wrote old.text.now old.at bytes new.text.now new.at
  pub loan : new.text.ghost_name ≡ old.text.ghost_name
