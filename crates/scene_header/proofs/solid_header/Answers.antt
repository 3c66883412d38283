use Rattle.std.proofs.Common.{ap, arith, ℕ, ◌+◌, ◌-◌, ◌≡◌}
use Rattle.scene_field.specs.Layout.{position_bytes, orientation_bytes, sizes_from}
use Rattle.scene.specs.declared.headers.Body.TheVariants.{Solid}
use Rattle.scene.specs.Contract.Headers.{solid_from, volume_size}
use Rattle.scene_header.proofs.solid_header.Goals as goal

sized : (i v w : ℕ) → v ≡ w → 5 + (position_bytes + orientation_bytes + v) ≡ 5 + (sizes_from i - i + w)
sized i v w e = omega arith

pub returns : goal.returns
returns c = let a = c.args in
    ap (λ (n : ℕ). record { id = a.id; body = Solid (solid_from a.i a.extent); size = n }) (sized a.i c.volume_size.result (volume_size a.extent) c.volume_size.ensures.0)
