use Rattle.std.proofs.Common.{length, length-take-le, sym, take}
use Rattle.lid_triangulate.proofs.LidLaws.{still, few_low, front_few, front_low, prepare_done}
use Rattle.lid_flat.specs.Flats.{flats_in}
use Rattle.lists.proofs.Buffers.{over_front}
use Rattle.lists.proofs.Lists.{length_list}
use Rattle.lid_triangulate.proofs.prepare.Goals as goal

pub survey-entries-requires : goal.survey-entries-requires
survey-entries-requires c = let p = c.requires in record { counts_bound = (p.counts_bound.0, few_low p.counts_bound.1); counts_in_bounds = p.counts_in_bounds; counts_in_bounds_2 = (p.counts_bound.1, p.counts_bound.1) }

pub slice_bounds-rights-end : goal.slice_bounds-rights-end
slice_bounds-rights-end c = still c.survey-entries.auto.rights c.requires.counts_bound.1

pub slice_bounds-order_holes-end : goal.slice_bounds-order_holes-end
slice_bounds-order_holes-end c = sym (length-take-le (length c.args.counts.holes.now) c.survey-entries.new.rights (still c.survey-entries.auto.rights c.requires.counts_bound.1))

pub slice_bounds-small-end : goal.slice_bounds-small-end
slice_bounds-small-end c = still c.survey-entries.auto.small c.requires.counts_bound.1

pub slice_bounds-order_holes-end-2 : goal.slice_bounds-order_holes-end-2
slice_bounds-order_holes-end-2 c = sym (length-take-le (length c.args.counts.holes.now) c.survey-entries.new.small (still c.survey-entries.auto.small c.requires.counts_bound.1))

pub order_holes-holes-requires : goal.order_holes-holes-requires
order_holes-holes-requires c = let n = length c.args.counts.holes.now in record { small_in_bounds = front_few n c.survey-entries.new.small _ c.requires.counts_in_bounds_2; small_len_bound = front_low n c.survey-entries.new.small c.requires.counts_bound.1 }

pub shape_of-hole : goal.shape_of-hole
shape_of-hole c = c.survey-entries.auto.hole

pub shape_of-order : goal.shape_of-order
shape_of-order c = c.order_holes-holes.auto.order

pub shape_of-log : goal.shape_of-log
shape_of-log c = c.survey-entries.auto.log

pub returns : goal.returns
returns c = let a = c.args in
    let s = c.survey-entries in
    let o = c.order_holes-holes in
    prepare_done (flats_in a.polygon) a.counts.outer a.counts.holes.now (length a.hole.now) (take (length a.counts.holes.now) s.new.rights) (take (length a.counts.holes.now) s.new.small) _ o.new.order a.log.now s.new.log _ c.requires.counts_in_bounds (over_front _ _ _ _ (sym (length_list _ _ _)) s.ensures.rights_after) (over_front _ _ _ _ (sym (length_list _ _ _)) s.ensures.small_after) s.ensures.value s.ensures.log_after o.ensures
