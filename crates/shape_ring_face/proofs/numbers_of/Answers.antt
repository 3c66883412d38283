use Rattle.std.proofs.Common.{arith, replicate}
use Rattle.coords.specs.Buffers.{vertex_numbers}
use Rattle.float.specs.Number.{zerof}
use Rattle.shape_ring_face.proofs.Rings.{laid_start, laid_next, laid_end}
use Rattle.shape_ring_face.proofs.numbers_of.Goals as goal

pub loop-k-init : goal.loop-k-init
loop-k-init c = laid_start c.args.ring.now (replicate 48 zerof) (omega arith)

pub loop-k-preserved : goal.loop-k-preserved
loop-k-preserved c = let ring = c.args.ring.now in
    let l = c.loop-k in
    laid_next ring l.k l.numbers (vertex_numbers ring) _ (omega arith) l.invariant

pub returns : goal.returns
returns c = let ring = c.args.ring.now in
    let l = c.loop-k in
    laid_end ring l.k l.numbers (vertex_numbers ring) (omega arith) l.invariant
