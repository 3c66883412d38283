use Rattle.decimal.proofs.Stores.{pair_stored}
use Rattle.decimal.proofs.put_pair.Goals as goal

pub returns : goal.returns
returns c = let a = c.args in
    pair_stored a.text.now a.at a.two c.digit.result c.digit-2.result c.digit.ensures c.digit-2.ensures
