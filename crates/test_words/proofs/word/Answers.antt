use Rattle.std.proofs.Common.{le-ltb, lt-ltb}
use Rattle.test_words.specs.Words.{word_of}
use Rattle.test_words.proofs.word.Goals as goal

pub returns-then-n-whole : goal.returns-then-n-whole
unfolding word_of
returns-then-n-whole c = rw (lt-ltb c.args.n 4 c.if-n-whole.true)

pub returns : goal.returns
unfolding word_of
returns c = rw (le-ltb c.args.n 4 c.if-n-whole.false, c.u32_at.ensures)
