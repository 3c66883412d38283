use Rattle.std.proofs.Common.{Bool, ap, ◌/◌}
use Rattle.quote_summary.proofs.summary_of.Goals as goal

pub returns : goal.returns
returns c = let a = c.args.a in ap (λ (b : Bool). record { refusal = a.refusal; objects = a.counts.account / 4; vertices = a.counts.vertices / 3; indices = a.counts.indices; spans = a.counts.spans / 5; ok = b }) c.is_ok.ensures
