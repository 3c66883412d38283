use Rattle.std.proofs.Common.{ap, arith, cond, zero-add, ℕ, ◌*◌, ◌+◌, ◌∙◌}
use Rattle.std.proofs.lemmas.List.{length-replicate}
use Rattle.float.specs.Number.{zerof}
use Rattle.shape_outline_lid.proofs.LidLaws.{triangles_drawn, few_triangles, lid_asks}
use Rattle.shape_outline_corners.specs.Contract.Outlines.{lid_in}
use Rattle.shape_outline_lid.proofs.faces.cap_in.Goals as goal

pub lid_faces-lid-requires : goal.lid_faces-lid-requires
lid_faces-lid-requires g c = let p = c.requires in
    let d = c.cut-d.ensures.lid_written in
    record { corners_in = (omega (arith, p.outline_holds.0.place, p.outline_holds.0.placed.counted.total, p.outline_holds.0.placed.inside), omega (arith, p.n_in_bounds.0, c.cut-d.auto.work, length-replicate g.row.FLOATS zerof), p.outline_holds.1); countable = lid_asks _ _ p.outline_holds.0 p.outline_holds.2 d.offered d.drawn (simp length-replicate p.n_in_bounds.1) }

pub closed_price-requires : goal.closed_price-requires
closed_price-requires g c = let m = c.requires.outline_holds.0 in
    (omega (arith, m.placed.counted.total, m.placed.counted.most), omega (arith, c.cut-d.ensures.lid_written.offered, few_triangles _ _ _ _ _ m.placed))

pub returns : goal.returns
returns g c = let o = c.args.o in
    let d = c.cut-d.ensures.lid_written in
    let drawn = triangles_drawn _ _ (lid_in c.args.s.now o).triangles c.cut-d.result.triangles d.offered d.drawn (simp length-replicate c.requires.n_in_bounds.1) in
    record {
      drew = rw drawn at c.lid_faces-lid.ensures;
      offered = c.closed_price.ensures ∙ ap (λ (k : ℕ). 2 * o.n + k + cond o.high k 0) d.offered;
      entries = d.entries ∙ zero-add _;
      log = d.written;
    }

pub cut-d-requires : goal.cut-d-requires
cut-d-requires g c = (c.requires.outline_holds.0, simp length-replicate (omega (arith, c.requires.n_in_bounds.0)))

pub overflow_cast-c : goal.overflow_cast-c
overflow_cast-c g c = omega (arith, c.cut-d.ensures.lid_written.offered, few_triangles _ _ _ _ _ c.requires.outline_holds.0.placed)

pub overflow_mul-c : goal.overflow_mul-c
overflow_mul-c g c = omega (arith, c.cut-d.ensures.lid_written.offered, few_triangles _ _ _ _ _ c.requires.outline_holds.0.placed)

pub shared_whole_as_front-lid_faces : goal.shared_whole_as_front-lid_faces
shared_whole_as_front-lid_faces g c = (omega (arith, c.cut-d.ensures.lid_written.offered, c.requires.n_in_bounds.1), omega (arith, c.requires.sizes.1))
