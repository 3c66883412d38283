use Rattle.std.proofs.Common.{ap}
use Rattle.scene.proofs.RecordLaws.{outline_past, outline_many, outline_counts, outline_corners_lem}
use Rattle.scene.specs.Contract.Answers.{end_of}
use Rattle.scene_check.proofs.record.Records.check_outline.Goals as goal

pub returns-then-self-i-lt4 : goal.returns-then-self-i-lt4
returns-then-self-i-lt4 c = let a = c.args in
    λ id closed. ap end_of (outline_past a.self.bytes.now a.self.end id closed a.i c.if-self-i-lt4.true)

pub returns-then-most-holes : goal.returns-then-most-holes
returns-then-most-holes c = let a = c.args in
    λ id closed. ap end_of (outline_many a.self.bytes.now a.self.end id closed a.i c.u16_in-outer.result c.u16_in-holes.result c.u16_in-outer.ensures c.u16_in-holes.ensures c.requires c.if-self-i-lt4.false c.if-most-holes.true)

pub returns-then-self-i : goal.returns-then-self-i
returns-then-self-i c = let a = c.args in
    λ id closed. ap end_of (outline_counts a.self.bytes.now a.self.end id closed a.i c.u16_in-outer.result c.u16_in-holes.result c.u16_in-outer.ensures c.u16_in-holes.ensures c.requires c.if-self-i-lt4.false c.if-most-holes.false c.if-self-i.true)

pub returns : goal.returns
returns c = let a = c.args in
    λ id closed. outline_corners_lem a.self.bytes.now a.self.end id closed a.i c.u16_in-outer.result c.u16_in-holes.result c.u16_in-outer.ensures c.u16_in-holes.ensures c.requires c.if-self-i-lt4.false c.if-most-holes.false c.if-self-i.false (c.check_corners.ensures id closed)
