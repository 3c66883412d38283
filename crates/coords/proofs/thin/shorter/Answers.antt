-- `coords::thin::shorter` meets its contract: widening changes no value. Assumes nothing.
use Rattle.coords.proofs.thin.shorter.Goals as goal

pub returns : goal.returns
returns c = rw c.f32_to_f64_with_nan.ensures
