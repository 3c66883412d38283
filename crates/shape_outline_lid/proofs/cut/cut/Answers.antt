use Rattle.std.proofs.Common.{arith, ap, length-take, length-take-le, refl, ℕ, ◌+◌, ◌∙◌}
use Rattle.scene_field.specs.Fields.{counts_at}
use Rattle.scene.proofs.Parts.{counts_length}
use Rattle.shape_outline_lid.proofs.FlatLaws.{cut_written}
use Rattle.shape_outline_lid.proofs.cut.cut.Goals as goal

pub lay_flat-requires : goal.lay_flat-requires
lay_flat-requires c = let p = c.requires in (omega (arith, p.0.place, p.0.placed.counted.total, p.0.placed.inside), p.1)

pub triangulate-requires : goal.triangulate-requires
triangulate-requires c = let a = c.args in
    let placed = c.requires.0.placed in
    let e = c.read_counts.ensures ∙ ap (λ (k : ℕ). counts_at a.s.now k (a.o.i + 4)) (length-take-le _ _ (omega (arith, placed.counted.few))) in
    (rw e (rw placed.counted.total at placed.counted.most), rw (e, counts_length a.s.now a.o.holes (a.o.i + 4)) placed.counted.few)

pub returns : goal.returns
returns c = let a = c.args in
    let laid = c.lay_flat.ensures in
    let e = c.read_counts.ensures ∙ ap (λ (k : ℕ). counts_at a.s.now k (a.o.i + 4)) (length-take-le _ _ (omega (arith, c.requires.0.placed.counted.few))) in
    record { lid_written = cut_written a.s.now a.o _ _ _ c.requires.0 laid.0 e c.triangulate.ensures refl; corners_laid = laid }

pub read_counts-requires : goal.read_counts-requires
read_counts-requires c = let placed = c.requires.0.placed in
    simp length-take (omega (arith, placed.counted.few, placed.inside))
