-- To compute with this crate's definitions, name `computes` on an `unfolding` line: it stands for all of them, and for the operations of lib.Ieee that they use.
use lib.Ieee.{neg, lt, eq}
use Rattle.shape.specs.Shapes.{on_axis, box_point, box_face, box_sides, box, ring_point, ring_at, cylinder_side, end_face, cylinder_faces, cylinder, solid_faces, wall, walls, outer_walls, hole_walls, all_corners, flat_of, outline_lid, has_height, lid_faces, outline_faces, same_corner, is_widthless_section, is_flat_section, pair_faces, pairs, start_out, end_out, cap, sweep_caps, sweep_faces, ellipse_point, ellipse, tube_side, tube_faces, tube_caps, round_sweep_faces, faces_of, log_of}
use Rattle.shape.specs.Price.{less_for, solid_price, outline_price, pair_price, pairs_price, caps_price, offered}

unfoldable pub computes : Unit {0}
unfolding neg lt eq on_axis box_point box_face box_sides box ring_point ring_at cylinder_side end_face cylinder_faces cylinder solid_faces wall walls outer_walls hole_walls all_corners flat_of outline_lid has_height lid_faces outline_faces same_corner is_widthless_section is_flat_section pair_faces pairs start_out end_out cap sweep_caps sweep_faces ellipse_point ellipse tube_side tube_faces tube_caps round_sweep_faces faces_of log_of less_for solid_price outline_price pair_price pairs_price caps_price offered
computes = tt
