use Rattle.std.proofs.Common.{Bool, ap, arith, drop-set-lt, length, length-set, refl, sym, zero-add, ℕ, ◌+◌, ◌∙◌}
use native.Mathlib.Nat.{sub-zero}
use Rattle.lid_hole.proofs.HoleLaws.{count_low}
use Rattle.lid_hole.proofs.SurveyLaws.{list_put, list_put_end, in_room, skips_low, skips_count, skips_log, skips_end}
use Rattle.lid_log.proofs.RecordLaws.{log_end}
use Rattle.lists.proofs.Buffers.{over_is, behind_later}
use Rattle.lists.proofs.Lists.{length_list}
use Rattle.lists.proofs.Loops.{fold_start, fold_next, fold_end}
use Rattle.lid_hole.specs.Contract.Holes.{hole_corners}
use Rattle.lid.specs.Rings.{too_small}
use Rattle.lid_flat.specs.Flats.{flats_in}
use Rattle.lid_hole.proofs.survey.survey.Goals as goal

pub loop-g-init : goal.loop-g-init
loop-g-init c = (refl, refl, refl, refl, omega arith, omega arith, simp sub-zero, simp sub-zero, simp (sub-zero, zero-add), simp sub-zero, refl, refl, fold_start _ _ _ _)

pub survey_hole-s-requires : goal.survey_hole-s-requires
survey_hole-s-requires c = let a = c.args in
    (c.loop-g-test.true, c.requires.counts_bound.0, omega (arith, count_low a.counts.outer a.counts.holes.now c.loop-g.g c.loop-g-test.true))

pub loop-g-preserved : goal.loop-g-preserved
loop-g-preserved c = let a = c.args in
    let l = c.loop-g in
    let s = c.survey_hole-s in
    let p = c.put_skip-n in
    let small : ℕ → Bool = λ g. too_small (flats_in a.polygon) (hole_corners a.counts.outer a.counts.holes.now g) in
    let more = c.loop-g-test.true in
    let n = length a.counts.holes.now in (
      s.auto.hole ∙ l.invariant.0,
      simp length-set l.invariant.1,
      simp length-set l.invariant.2,
      p.auto.log ∙ l.invariant.3,
      omega arith,
      skips_low small n l.g more s.result.small s.ensures.small_value l.n p.result p.ensures.value l.invariant.5,
      list_put _ l.rights _ l.g l.invariant.6 _ more (in_room more c.requires.counts_in_bounds_2.0 l.invariant.1) s.ensures.right_value,
      list_put _ l.small _ l.g l.invariant.7 _ more (in_room more c.requires.counts_in_bounds_2.1 l.invariant.2) s.ensures.small_value,
      skips_count small n l.g more s.result.small s.ensures.small_value l.n p.result p.ensures.value _ l.invariant.8,
      skips_log small n l.g more s.result.small s.ensures.small_value l.n p.result p.ensures.value l.log _ _ p.ensures.log_after l.invariant.9,
      drop-set-lt (l.g + 1) l.rights l.g _ (omega arith) ∙ behind_later l.g (l.g + 1) l.rights _ (omega arith) l.invariant.10,
      drop-set-lt (l.g + 1) l.small l.g _ (omega arith) ∙ behind_later l.g (l.g + 1) l.small _ (omega arith) l.invariant.11,
      fold_next _ _ _ l.g l.hole _ _ more s.ensures.hole_after l.invariant.12,
    )

pub shape_of-hole : goal.shape_of-hole
shape_of-hole c = c.loop-g.invariant.0

pub shape_of-rights : goal.shape_of-rights
shape_of-rights c = c.loop-g.invariant.1

pub shape_of-small : goal.shape_of-small
shape_of-small c = c.loop-g.invariant.2

pub shape_of-log : goal.shape_of-log
shape_of-log c = c.loop-g.invariant.3

pub returns : goal.returns
returns c = let l = c.loop-g in
    let a = c.args in
    let left = c.loop-g-test.false in
    let e = skips_end (λ g. too_small (flats_in a.polygon) (hole_corners a.counts.outer a.counts.holes.now g)) (length a.counts.holes.now) l.g left in
    let n = length a.counts.holes.now in record {
      rights_after = over_is n l.rights _ _ (sym (length_list _ _ _)) (list_put_end _ l.rights _ l.g l.invariant.6 left l.invariant.4) (behind_later l.g n l.rights _ l.invariant.4 l.invariant.10);
      small_after = over_is n l.small _ _ (sym (length_list _ _ _)) (list_put_end _ l.small _ l.g l.invariant.7 left l.invariant.4) (behind_later l.g n l.small _ l.invariant.4 l.invariant.11);
      value = omega (arith, ap length e, l.invariant.8);
      log_after = log_end l.log _ l.n (rw e at l.invariant.9);
      hole_after = fold_end _ _ _ l.g l.hole _ left l.invariant.12;
    }
