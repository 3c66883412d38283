use Rattle.std.proofs.Common.{le-leb}
use borrow.Author.Tests.{lt-leb}
use Rattle.lid.specs.Clipping.{cut_straight, cut_ear, clip_step}
use Rattle.lid_clip.specs.Contract.StepNotes.{step_notes}
use Rattle.lid_clip.proofs.clip_step.Goals as goal

pub returns-then-laid-le3 : goal.returns-then-laid-le3
unfolding clip_step step_notes
returns-then-laid-le3 c = record { value = rw (le-leb _ _ c.if-laid-le3.true); known_2 = c.requires.known; why_after = rw (le-leb _ _ c.if-laid-le3.true) }

pub returns-in-Some : goal.returns-in-Some
unfolding clip_step cut_ear step_notes
returns-in-Some c = record { value = rw (lt-leb _ _ c.if-laid-le3.false, ← c.find_ear.ensures.result_value, c.in-Some.is); known_2 = c.find_ear.ensures.known_2; why_after = rw (lt-leb _ _ c.if-laid-le3.false) c.find_ear.ensures.why_after }

pub returns-in_err-place : goal.returns-in_err-place
unfolding clip_step cut_ear cut_straight step_notes
returns-in_err-place c = record { value = rw (c.from_residual.ensures, lt-leb _ _ c.if-laid-le3.false, ← c.find_ear.ensures.result_value, c.in_default.is, ← c.find_straight.ensures, c.in_err-place.was); known_2 = c.find_ear.ensures.known_2; why_after = rw (lt-leb _ _ c.if-laid-le3.false) c.find_ear.ensures.why_after }

pub returns : goal.returns
unfolding clip_step cut_ear cut_straight step_notes
returns c = record { value = rw (lt-leb _ _ c.if-laid-le3.false, ← c.find_ear.ensures.result_value, c.in_default.is, ← c.find_straight.ensures, c.in_ok-place.was); known_2 = c.find_ear.ensures.known_2; why_after = rw (lt-leb _ _ c.if-laid-le3.false) c.find_ear.ensures.why_after }
