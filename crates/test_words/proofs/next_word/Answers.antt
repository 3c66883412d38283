-- `test_words::next_word` meets its contract: the word in what was read. Assumes nothing.
use Rattle.std.proofs.Common.{◌≡◌, length, rules, arith}
use Rattle.test_words.proofs.NextWord.{known_word}
use Rattle.test_words.proofs.next_word.Goals as goal

pub returns : goal.returns
returns g c =
    let read = c.in_ok-n.ensures in
    let long : length c.read_full.new.to ≡ 4 = search rules in
    rw c.word.ensures (known_word c.read_full.new.to c.in_ok-n.n long read.ok.1 _ _ (omega (arith, read.ok.0, long)) read.bytes (λ h. read.end (omega (arith, long))))
