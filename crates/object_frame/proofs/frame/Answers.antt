-- `object_frame::frame` meets its contract: widening changes no value. Assumes nothing.
use Rattle.object.specs.Object.{frame}
use Rattle.object_frame.proofs.frame.Goals as goal

pub returns : goal.returns
unfolding frame
returns c = rw (c.narrow.ensures, c.narrow-2.ensures, c.narrow-3.ensures, c.f32_to_f64_with_nan-z0.ensures, c.f32_to_f64_with_nan-v0.ensures, c.f32_to_f64_with_nan-u0.ensures)
