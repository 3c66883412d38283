-- To compute with the samples, name `computes` on an `unfolding` line: it stands for all of them, and for the operations of lib.Ieee that they use. `all` stands for the definitions of the crates below too.
use lib.Ieee.{of_int, to_bits}
use Rattle.test_samples.specs.Samples.{bytes_of, f32_bytes, head, one_pair, solid_bytes, solid_at_x, corner_bytes, outline_bytes, thin_bytes, offsets_from, scene_bytes, same, objects_in, filled, words_of, at_all, same_words, same_counts}
use Rattle.mesh.proofs.Computes.{all as mesh-all}

unfoldable pub computes : Unit {0}
unfolding of_int to_bits bytes_of f32_bytes head one_pair solid_bytes solid_at_x corner_bytes outline_bytes thin_bytes offsets_from scene_bytes same objects_in filled words_of at_all same_words same_counts
computes = tt

unfoldable pub all : Unit {0}
unfolding computes mesh-all
all = tt
