-- To compute with this crate's definitions, name `computes` on an `unfolding` line: it stands for all of them, and for the operations of lib.Ieee that they use.
use lib.Ieee.{lt, eq, le, ne}
use Rattle.lid.specs.Log.{log_numbers, entries_in, is_mark, left_over, logged}
use Rattle.lid.specs.Rings.{corner, turn, turn_of, area, too_small, turn_outer, turn_hole, rings_from, holes_from, skipped_from, right, insert, in_order}
use Rattle.lid.specs.Contract.Rings.{flats}
use Rattle.lid.specs.Bridges.{rightmost, passes, meets, no_nearer, hit_edge, hit_at, first_hit, inside, slope_of, seen_at, visible, sits_in, is_copy, or_else, copy_of, bridge_at, bridge, splice, spliced, bridge_entry, join_all}
use Rattle.lid.specs.Clipping.{clear, is_ear, is_straight, cut_straight, cut_ear, clip_step, clip_by, clip}
use Rattle.lid.specs.Lid.{ears_of, last_triangle, lid_from, lid_rings, lid_of, one_more, lid_price}
use Rattle.lid.specs.Contract.Written.{triangle_numbers}
use Rattle.lid.specs.Contract.Steps.{insert_at}
use Rattle.lid.specs.Areas.{whole, exact_turn, exact_area, fan_area, ring_area, outer_term, joined_term, marked_term, left_term}

unfoldable pub computes : Unit {0}
unfolding lt eq le ne log_numbers entries_in is_mark left_over logged flats corner turn turn_of area too_small turn_outer turn_hole rings_from holes_from skipped_from right insert in_order rightmost passes meets no_nearer hit_edge hit_at first_hit inside slope_of seen_at visible sits_in is_copy or_else copy_of bridge_at bridge splice spliced bridge_entry join_all clear is_ear is_straight cut_straight cut_ear clip_step clip_by clip ears_of last_triangle lid_from lid_rings lid_of one_more lid_price triangle_numbers insert_at whole exact_turn exact_area fan_area ring_area outer_term joined_term marked_term left_term
computes = tt
