-- Document 01, section 7, and `Mesh::validate`: what is wrong with a vertex and with a triangle, at a limit below which a triangle is thin. Definitions only.
use Rattle.std.specs.Prelude.{ℕ, Bool, not, ◌||◌, List, get_or, eqb, Float}
use Rattle.coords.specs.declared.Point.{Point}
use Rattle.coords.specs.Coords.{no_area, origin, finite_point}

-- vertex i has a NaN or an infinity
abbrev pub not_finite : List Point → ℕ → Bool
not_finite vs i = not (finite_point (get_or vs i origin))

-- a triangle of vertices that there are repeats one, or has too little area
unfoldable pub degenerate : Float → List Point → ℕ → ℕ → ℕ → Bool
degenerate limit vs a b c =
    eqb a b || eqb b c || eqb a c || no_area limit (get_or vs a origin) (get_or vs b origin) (get_or vs c origin)
