-- To compute with this crate's definitions, name `computes` on an `unfolding` line: it stands for all of them, and for the operations of lib.Ieee that they use.
use lib.Ieee.{of_bits}
use Rattle.scene_field.specs.Fields.{u16_at, u32_at, f32_at, u64_at, f64_at, point_at, corner_at, section_at, pair_at, orientation_at, corners_at, sections_at, counts_at, holes_at, all32, all64}
use Rattle.scene.specs.Scene.{rest, solid_at, outline_corners, outline_at, sweep_at, kind_at, record_at, prepend, record_then, records_from, trailer, count_at, scene}
use Rattle.scene.specs.Contract.Headers.{body_at, header_at}

unfoldable pub computes : Unit {0}
unfolding of_bits u16_at u32_at f32_at u64_at f64_at point_at corner_at section_at pair_at orientation_at corners_at sections_at counts_at holes_at all32 all64 rest solid_at outline_corners outline_at sweep_at kind_at record_at prepend record_then records_from trailer count_at scene body_at header_at
computes = tt
