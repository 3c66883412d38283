-- Notes and counts of small rings, computed on the definitions. Assumes nothing.
use mathlib.Core.Path.{◌≡◌, refl}
use mathlib.Core.List.{List, [], ◌∷◌}
use lib.ListN.{replicate}
use lib.Ieee.{Float, binary32, of_bits}
use Rattle.lists.proofs.Computes.{computes as lists-computes}
use Rattle.float.specs.Number.{zerof, onef, twof}
use Rattle.float.proofs.Computes.{computes as float-computes}
use Rattle.lid.specs.declared.Flat.{Flat}
use Rattle.std.specs.Prelude.{None}
use Rattle.lid.proofs.Computes.{computes as lid-computes}
use Rattle.lid_clip_ear.specs.Contract.Notes.{failed_at, down, moved_by, without}
use Rattle.lid_clip_ear.specs.Contract.Ears.{fails, told, tested, looked, note_down, searched}
use Rattle.lid_clip_cost.specs.Cost.{calls, place_tests, later_tests, search_tests, behind_tests, clip_tests}

abbrev pub threef : Float
threef = of_bits binary32 0x40400000

abbrev pub at : Float → Float → Flat
at x y = record { x = x; y = y }

abbrev pub square : List Flat
square = at zerof zerof ∷ at onef zerof ∷ at onef onef ∷ at zerof onef ∷ []

-- corner 3 turns right, and stands in the way of the triangle at corner 1
abbrev pub dart : List Flat
dart = at zerof zerof ∷ at threef onef ∷ at zerof twof ∷ at onef onef ∷ []

-- the square's first corner is an ear: its turn and four corners are tested, and three corners are left
pub square_tests : clip_tests square 4 (0 ∷ 1 ∷ 2 ∷ 3 ∷ []) (replicate 4 0) ≡ 5
unfolding lists-computes float-computes lid-computes failed_at down moved_by without fails told tested looked note_down searched calls place_tests later_tests search_tests behind_tests clip_tests
square_tests = refl

-- the dart from corner 1 on: of place 0 the turn and two corners pass, and test 3, of the corner at place 2, fails, which is noted; place 1 is an ear
pub dart_notes : searched dart (1 ∷ 2 ∷ 3 ∷ 0 ∷ []) 4 0 (replicate 4 0) ≡ 7 ∷ 0 ∷ 0 ∷ 0 ∷ []
unfolding lists-computes float-computes lid-computes failed_at fails told tested looked note_down searched
dart_notes = refl

pub dart_tests : clip_tests dart 4 (1 ∷ 2 ∷ 3 ∷ 0 ∷ []) (replicate 4 0) ≡ 9
unfolding lists-computes float-computes lid-computes failed_at down moved_by without fails told tested looked note_down searched calls place_tests later_tests search_tests behind_tests clip_tests
dart_tests = refl

-- where that corner were cut off, the tests would go on with the corner behind it: the first three tests pass
pub dart_goes_on : tested dart (1 ∷ 2 ∷ 0 ∷ []) 0 6 ≡ None
unfolding lists-computes float-computes lid-computes failed_at fails told tested
dart_goes_on = refl

-- a note where place 2 is removed: 6 and less rest on places before it; 7 says that its test failed; the others are of later places
pub moved_notes : without 2 (0 ∷ 6 ∷ 1 ∷ 9 ∷ 7 ∷ 6 ∷ 5 ∷ 8 ∷ 9 ∷ []) ≡ 0 ∷ 0 ∷ 0 ∷ 6 ∷ 6 ∷ 5 ∷ 6 ∷ 7 ∷ []
unfolding lists-computes down moved_by without
moved_notes = refl
