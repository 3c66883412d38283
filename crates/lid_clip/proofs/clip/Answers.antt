use Rattle.lid_flat.specs.Flats.{flats_in}
use Rattle.lid_clip.proofs.HeldLaws.{held_start}
use Rattle.lid_clip.proofs.clip.Goals as goal

pub clip_held-requires : goal.clip_held-requires
clip_held-requires c = let a = c.args in
    record { ring_bound = c.requires.ring_bound; held = held_start (flats_in a.polygon) a.ring.now _ _ _ _ c.lay_out.ensures c.forget_all.ensures c.requires.rxs_len.2 }
