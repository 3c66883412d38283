-- To compute with this crate's definitions, name `computes` on an `unfolding` line: it stands for all of them. `all` stands for those of the crates below too.
use Rattle.mesh.specs.Mesh.{kept_by, thin_by, account_of, piece_of, span_of, add_piece, mesh_from, mesh_of, accounts_of, logs_of, span_numbers, account_numbers, spans_in, accounts_in}
use Rattle.mesh.specs.Operations.{no_counts, refused_with, output, counts_of, done, measure_scene, measure, too_short, overlay, build_output, build_scene, build}
use Rattle.mesh.specs.Demand3.{kept_corners, indices_in, prefixes}
use Rattle.lists.proofs.Computes.{computes as lists-computes}
use Rattle.float.proofs.Computes.{computes as float-computes}
use Rattle.millimetre.proofs.Computes.{computes as millimetre-computes}
use Rattle.coords.proofs.Computes.{computes as coords-computes}
use Rattle.angle_circle.proofs.Computes.{computes as circle-computes}
use Rattle.object.proofs.Computes.{computes as object-computes}
use Rattle.scene.proofs.Computes.{computes as scene-computes}
use Rattle.face.proofs.Computes.{computes as face-computes}
use Rattle.lid.proofs.Computes.{computes as lid-computes}
use Rattle.lid_plane.proofs.Computes.{computes as flattening-computes}
use Rattle.shape.proofs.Computes.{computes as shapes-computes}
use Rattle.validate.proofs.Computes.{computes as validation-computes}

unfoldable pub computes : Unit {0}
unfolding kept_by thin_by account_of piece_of span_of add_piece mesh_from mesh_of accounts_of logs_of span_numbers account_numbers spans_in accounts_in no_counts refused_with output counts_of done measure_scene measure too_short overlay build_output build_scene build kept_corners indices_in prefixes
computes = tt

unfoldable pub all : Unit {0}
unfolding computes lists-computes float-computes millimetre-computes coords-computes circle-computes object-computes scene-computes face-computes lid-computes flattening-computes shapes-computes validation-computes
all = tt
