use Rattle.shape_ring_face.proofs.EndLaws.{end_countable, end_low, end_drew}
use Rattle.shape_ring_face.proofs.end.Goals as goal

pub face-requires : goal.face-requires
face-requires c = let ring = c.args.ring.now in
    let e = c.numbers_of-numbers.ensures in
    (end_countable ring _ e c.told-ring c.requires, end_low ring _ e c.told-ring)

pub returns : goal.returns
returns c = let a = c.args in
    record { drew = λ part. end_drew a.ring.now _ c.numbers_of-numbers.ensures a.canvas.now.limit a.out part (c.face.ensures.drew part); same = c.face.ensures.same }
