use Rattle.std.proofs.Common.{ap, sym, ◌∙◌}
use Rattle.coords_vector.specs.declared.Vector.{Vector}
use Rattle.lid_plane.proofs.AboutLaws.{about_from_lem}
use Rattle.lid_plane.specs.Plane.{area_normal}
use Rattle.lid_plane.specs.Contract.Steps.{about_from}
use Rattle.scene_field.specs.Fields.{corners_at}
use Rattle.shape_outline_corners.proofs.CornerLaws.{bases_points}
use Rattle.shape_outline_corners.proofs.Row.about.Goals as goal

pub returns : goal.returns
returns c = let a = c.args.self in
    c.about_from.ensures ∙ ap (λ (v : Vector). about_from v c.args.lid) (c.area_normal.ensures ∙ ap area_normal (sym (bases_points a.s.now a.n a.at))) ∙ about_from_lem (corners_at a.s.now a.n a.at) c.args.lid
