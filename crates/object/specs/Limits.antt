-- Document 01, section 1: the limits of an outline, which scenes are held to and lids rely on. Definitions only.
use Rattle.std.specs.Prelude.{ℕ}

abbrev pub most_holes : ℕ
most_holes = 32

-- of an outline with its holes
abbrev pub most_corners : ℕ
most_corners = 512
