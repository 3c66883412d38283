use Rattle.std.proofs.Common.{arith, ◌+◌, ◌≡◌}
use Rattle.scene_field.proofs.Fields.{u32_bytes}
use Rattle.scene_field.specs.Fields.{u64_at}
use Rattle.scene_field.proofs.u64_in.Goals as goal

pub returns : goal.returns
unfolding u64_at
returns c = let a = c.args in
    let e5 : a.i + 4 + 1 ≡ a.i + 5 = omega arith in
    let e6 : a.i + 4 + 2 ≡ a.i + 6 = omega arith in
    let e7 : a.i + 4 + 3 ≡ a.i + 7 = omega arith in
    omega (arith, u32_bytes a.s.now a.i, rw (e5, e6, e7) at (u32_bytes a.s.now (a.i + 4)))
