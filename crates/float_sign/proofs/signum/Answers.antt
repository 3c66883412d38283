use Rattle.std.proofs.Common.{◌∙◌}
use Rattle.float_sign.proofs.Library.{signum_is}
use Rattle.float_sign.proofs.signum.Goals as goal

pub returns : goal.returns
returns c = c.signum.ensures ∙ signum_is c.args.x
