-- `face_draw::points::put_points` meets its contract: in a buffer without any place every store is left out. Assumes nothing.
use Rattle.std.proofs.Common.{arith, length, rules, ◌≡◌}
use Rattle.std.proofs.lemmas.Bool.Decides.{nat_tests}
use Rattle.lists.proofs.Stores.{sets_none}
use Rattle.face_draw.proofs.points.put_points.Goals as goal

pub returns-then-is_empty-2 : goal.returns-then-is_empty-2
returns-then-is_empty-2 c = let a = c.args in
    let no-vs : length a.vs.now ≡ 0 = grind (arith, nat_tests) in
    let no-ns : length a.ns.now ≡ 0 = grind (arith, nat_tests) in
    (search (rules, sets_none), search (rules, sets_none))
