-- Corners laid flat in a working buffer. Definitions only.
use Rattle.std.specs.Prelude.{◌≡◌, ℕ, ◌*◌, List, take, drop, Float}
use Rattle.lists.specs.Slices.{Slice}
use Rattle.lid.specs.declared.Flat.{Flat}
use Rattle.lid.specs.Contract.Rings.{flats}

-- n flat corners were written to a lent slice: the first coordinates to its front, the second ones behind them; beyond that it is as it was
abbrev pub CornersLaid : List Flat → ℕ → Slice Float → Type 0
CornersLaid fs n work =
    (flats (take n work.exit.now) (drop n work.exit.now) ≡ fs) × (drop (2 * n) work.exit.now ≡ drop (2 * n) work.entry.now)
