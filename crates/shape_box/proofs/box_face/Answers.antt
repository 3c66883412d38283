use Rattle.shape.specs.Shapes.{box_face}
use Rattle.shape_box.proofs.box_face.Goals as goal

pub returns : goal.returns
unfolding box_face
returns c = record {
  drew = λ part. rw (c.corner.ensures, c.corner-2.ensures, c.corner-3.ensures, c.corner-4.ensures) at (c.quad.ensures.drew part);
  same = c.quad.ensures.same;
}
