use Rattle.std.proofs.Common.{arith}
use Rattle.face_judge.proofs.OneOffered.{counted_once, two_offered}
use Rattle.face_judge.proofs.Judge.offer_quad.Goals as goal

pub overflow_add-place : goal.overflow_add-place
overflow_add-place c = omega (arith, counted_once _ _ _ c.offer-s.ensures.0, c.requires.1)

pub offer-requires : goal.offer-requires
offer-requires c = let n = counted_once _ _ _ c.offer-s.ensures.0 in (omega (arith, n), omega (arith, n))

pub returns : goal.returns
returns c = let a = c.args in
    let j = a.self in
    let k = c.side-first.ensures in
    let m = c.side-second.ensures in
    two_offered j.limit j.out a.a a.b a.c a.d j.base j.place a.is.now (rw k at c.offer-s.ensures.0) (rw k at c.offer-s.ensures.1)
    (rw m at c.offer.ensures.0) (rw m at c.offer.ensures.1)
