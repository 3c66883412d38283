use Rattle.std.proofs.Common.{drop, length, take, ◌++◌, ◌+◌, ◌-◌, ◌≡◌, ◌≤◌}
use Rattle.lid_hole.specs.Contract.Holes.{hole_corners, rights_of, small_of, holes_over, all_holes_over, skips}
use Rattle.lid.specs.Rings.{too_small, right, turn_hole}
use Rattle.lid_flat.specs.Flats.{flats_in}
use Rattle.lid.specs.Contract.Written.{log_with}
use Rattle.lists.specs.Loops.{list}
use Rattle.lid_hole.proofs.survey.survey.Given as goal

abbrev pub invariant-loop-g : goal.invariant-loop-g
invariant-loop-g l =
    (length l.hole ≡ length l.initial.hole) × (length l.rights ≡ length l.initial.rights) × (length l.small ≡ length l.initial.small) × (length l.log ≡ length l.initial.log) × (l.g ≤ length l.counts.holes.now) × (l.n ≤ l.g)
    × (take l.g l.rights ++ list (λ g. right (flats_in l.polygon) (turn_hole (flats_in l.polygon) (hole_corners l.counts.outer l.counts.holes.now g))) (length l.counts.holes.now - l.g) l.g ≡ rights_of (flats_in l.polygon) l.counts.outer l.counts.holes.now)
    × (take l.g l.small ++ list (λ g. too_small (flats_in l.polygon) (hole_corners l.counts.outer l.counts.holes.now g)) (length l.counts.holes.now - l.g) l.g ≡ small_of (flats_in l.polygon) l.counts.outer l.counts.holes.now)
    × (l.n + length (skips l.g (list (λ g. too_small (flats_in l.polygon) (hole_corners l.counts.outer l.counts.holes.now g)) (length l.counts.holes.now - l.g) l.g)) ≡ length (skips 0 (small_of (flats_in l.polygon) l.counts.outer l.counts.holes.now)))
    × (log_with l.log l.n (skips l.g (list (λ g. too_small (flats_in l.polygon) (hole_corners l.counts.outer l.counts.holes.now g)) (length l.counts.holes.now - l.g) l.g)) ≡ log_with l.initial.log 0 (skips 0 (small_of (flats_in l.polygon) l.counts.outer l.counts.holes.now)))
    × (drop l.g l.rights ≡ drop l.g l.initial.rights)
    × (drop l.g l.small ≡ drop l.g l.initial.small)
    × (holes_over (flats_in l.polygon) l.counts.outer l.counts.holes.now (list (λ g. g) (length l.counts.holes.now - l.g) l.g) l.hole ≡ all_holes_over (flats_in l.polygon) l.counts.outer l.counts.holes.now l.initial.hole)
