use Rattle.std.proofs.Common.{add-zero, arith, eq-eqb, length, ne_eqb, refl, sym}
use Rattle.lid.specs.Lid.{last_triangle}
use Rattle.lid.specs.Rings.{turn_of}
use Rattle.lid.specs.Contract.Written.{triangle_numbers}
use Rattle.lists.specs.Loops.{join}
use Rattle.lid_cut.proofs.put_last.Goals as goal

pub returns-in_default : goal.returns-in_default
unfolding last_triangle triangle_numbers join
returns-in_default c = rw (ne_eqb (length c.args.ring.now) 3 (λ e. omega arith)) record { value = sym (add-zero c.args.count); triangles_after = refl }

pub returns-in_default-2 : goal.returns-in_default-2
unfolding last_triangle triangle_numbers join
returns-in_default-2 c = rw (ne_eqb (length c.args.ring.now) 3 (λ e. omega arith)) record { value = sym (add-zero c.args.count); triangles_after = refl }

pub returns-then-turn : goal.returns-then-turn
unfolding last_triangle turn_of
returns-then-turn c = rw (eq-eqb (length c.args.ring.now) 3 (omega arith), ← c.at-u.ensures, ← c.at-v.ensures, ← c.at-w.ensures, ← c.turn.ensures, c.if-turn.true) record { value = refl; triangles_after = c.put_triangle.ensures }

pub returns : goal.returns
unfolding last_triangle turn_of triangle_numbers join
returns c = rw (eq-eqb (length c.args.ring.now) 3 (omega arith), ← c.at-u.ensures, ← c.at-v.ensures, ← c.at-w.ensures, ← c.turn.ensures, c.if-turn.false) record { value = sym (add-zero c.args.count); triangles_after = refl }
