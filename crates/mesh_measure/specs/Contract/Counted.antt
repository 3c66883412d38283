-- What the objects of a scene take in each buffer, measured or at most, with the refusals of the scene. Definitions only.
use Rattle.std.specs.Prelude.{length, Float}
use Rattle.scene.specs.Scene.{Scene, refused, accepted}
use Rattle.mesh.specs.Operations.{Answer, refused_with}
use Rattle.mesh_bound.specs.declared.Group.TheVariants.{All}
use Rattle.mesh_bound.specs.declared.Counting.{Counting}
use Rattle.mesh_bound.specs.Most.{numbers_of}
use Rattle.mesh_bound.specs.Contract.Groups.{bound_of_all}

unfoldable pub counted_scene : Counting → Float → Scene → Answer
counted_scene counting limit (refused f object) = refused_with f object
counted_scene counting limit (accepted os) = record { number = 0; object = 0; counts = numbers_of (bound_of_all All counting limit os) (length os) }
