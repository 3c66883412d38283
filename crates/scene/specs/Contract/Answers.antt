-- What the checking pass keeps of the definitions of specs/Scene.antt. Assumes nothing.
use Rattle.std.specs.Prelude.{ℕ, List, [], length, Result, Ok, Err}
use Rattle.object.specs.Object.{Object}
use Rattle.scene.specs.Scene.{Record, bad, good, Scene, refused, accepted}
use Rattle.refusal.specs.declared.Refusal.{Refusal}
use Rattle.refusal.specs.declared.Refused.{Refused}

-- of a record: the refusal, or where it ends
abbrev pub end_of : Record → Result ℕ Refusal
end_of (bad r) = Err r
end_of (good o next) = Ok next

-- of a scene: the refusal and the object named, or the number of objects
abbrev pub checked_of : Scene → Result ℕ Refused
checked_of (refused r object) = Err (record { refusal = r; object = object })
checked_of (accepted os) = Ok (length os)

-- the objects of an accepted scene
abbrev pub objects_of : Scene → List Object
objects_of (refused r object) = []
objects_of (accepted os) = os
