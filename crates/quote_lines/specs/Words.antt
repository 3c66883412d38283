-- Text as bytes. Definitions only.
use Rattle.std.specs.Prelude.{ℕ, List, [], ◌∷◌, ◌++◌}
use Prim.Native.Char.{code}
use Prim.Native.String.{String, [] as none, ◌∷◌ as ◌then◌}
use Rattle.decimal.specs.Decimals.{decimal}

-- a byte for each character, which is in ASCII
abbrev pub ascii : String → List ℕ
ascii none = []
ascii (c then rest) = code c ∷ ascii rest

-- a word, and a number in decimal behind it
abbrev pub field : String → ℕ → List ℕ
field word n = ascii word ++ decimal n
