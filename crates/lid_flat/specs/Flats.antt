-- The flat corners whose coordinates two slices hold, as a list.
use Rattle.std.specs.Prelude.{List}
use Rattle.lid.specs.declared.Flat.{Flat}
use Rattle.lid.specs.Contract.Rings.{flats}
use Rattle.lid_flat.specs.declared.Flats.{Flats}

abbrev pub flats_in : Flats → List Flat
flats_in f = flats f.xs.now f.ys.now
